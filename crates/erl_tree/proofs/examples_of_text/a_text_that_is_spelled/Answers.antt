use Rattle.erl_tree.proofs.TextExamples.{small_spelled}
use Rattle.erl_tree.proofs.examples_of_text.a_text_that_is_spelled.Goals as goal

pub returns : goal.returns
returns c = small_spelled
