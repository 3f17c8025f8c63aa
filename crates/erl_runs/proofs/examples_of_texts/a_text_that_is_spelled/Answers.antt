use Rattle.erl_runs.proofs.TextExamples.{small_module_spelled}
use Rattle.erl_runs.proofs.examples_of_texts.a_text_that_is_spelled.Goals as goal

pub returns : goal.returns
returns c = small_module_spelled
