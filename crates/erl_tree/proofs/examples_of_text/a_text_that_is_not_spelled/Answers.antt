use Rattle.erl_tree.proofs.TextExamples.{dollar_spells_nothing}
use Rattle.erl_tree.proofs.examples_of_text.a_text_that_is_not_spelled.Goals as goal

pub returns : goal.returns
returns c tokens h = dollar_spells_nothing tokens h
