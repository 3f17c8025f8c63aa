use Rattle.erl_grammar.proofs.TypeExamples.{some-atoms-formed, some-atoms-tokens}
use Rattle.erl_grammar.proofs.examples_of_types.a_list_may_be_nonempty.Goals as goal

pub returns-clause-formed : goal.returns-clause-formed
returns-clause-formed c = some-atoms-formed

pub returns-clause-tokens : goal.returns-clause-tokens
returns-clause-tokens c = some-atoms-tokens
