use Rattle.erl_grammar.proofs.TreeExamples.{one-in-parens-formed, integer-at-level-3, none-at-level-4}
use Rattle.erl_grammar.proofs.examples.parentheses_nest.Goals as goal

pub returns-clause-formed : goal.returns-clause-formed
returns-clause-formed c = one-in-parens-formed

pub returns-clause-below_2 : goal.returns-clause-below_2
returns-clause-below_2 c = integer-at-level-3

pub returns-clause-below_3 : goal.returns-clause-below_3
returns-clause-below_3 c = none-at-level-4
