use Rattle.erl_tree.proofs.TextExamples.{string_lexed}
use Rattle.erl_tree.proofs.examples_of_text.a_text_that_is_lexed.Goals as goal

pub returns : goal.returns
returns c = string_lexed
