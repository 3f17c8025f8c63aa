use Rattle.erl_grammar.proofs.TreeExamples.{three-integers-formed, third-at-level-4, none-at-level-5}
use Rattle.erl_grammar.proofs.examples.elements_nest_in_turn.Goals as goal

pub returns-clause-formed : goal.returns-clause-formed
returns-clause-formed c = three-integers-formed

pub returns-clause-below_3 : goal.returns-clause-below_3
returns-clause-below_3 c = third-at-level-4

pub returns-clause-below_4 : goal.returns-clause-below_4
returns-clause-below_4 c = none-at-level-5
