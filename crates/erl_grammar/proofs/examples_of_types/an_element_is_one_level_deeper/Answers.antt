use Rattle.erl_grammar.proofs.TypeExamples.{list-of-atoms-formed, within-2, not-within-1}
use Rattle.erl_grammar.proofs.examples_of_types.an_element_is_one_level_deeper.Goals as goal

pub returns-clause-formed : goal.returns-clause-formed
returns-clause-formed c = list-of-atoms-formed

pub returns-clause-within_2 : goal.returns-clause-within_2
returns-clause-within_2 c = within-2

pub returns-clause-within_1 : goal.returns-clause-within_1
returns-clause-within_1 c = not-within-1
