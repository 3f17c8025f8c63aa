use Rattle.erl_grammar.proofs.FormExamples.{function-of-two-formed, function-of-two-tokens, function-of-none-not-formed}
use Rattle.erl_grammar.proofs.examples_of_forms.a_function_has_clauses.Goals as goal

pub returns-clause-two : goal.returns-clause-two
returns-clause-two c = function-of-two-formed

pub returns-clause-two_tokens : goal.returns-clause-two_tokens
returns-clause-two_tokens c = function-of-two-tokens

pub returns-clause-none : goal.returns-clause-none
returns-clause-none c = function-of-none-not-formed
