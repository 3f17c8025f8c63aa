use Rattle.erl_grammar.proofs.TypeExamples.{fun-of-named-formed, fun-of-named-tokens, fun-to-named-not-formed}
use Rattle.erl_grammar.proofs.examples_of_types.a_parameter_of_a_fun_may_have_a_name.Goals as goal

pub returns-clause-parameter : goal.returns-clause-parameter
returns-clause-parameter c = fun-of-named-formed

pub returns-clause-parameter_tokens : goal.returns-clause-parameter_tokens
returns-clause-parameter_tokens c = fun-of-named-tokens

pub returns-clause-result : goal.returns-clause-result
returns-clause-result c = fun-to-named-not-formed
