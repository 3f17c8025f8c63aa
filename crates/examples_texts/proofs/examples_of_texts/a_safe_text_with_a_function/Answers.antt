use Rattle.examples_texts.proofs.TextsSpelled.{keeps_is_spelled}
use Rattle.examples_texts.proofs.SafeTexts.{keeps}
use Rattle.examples_texts.proofs.examples_of_texts.a_safe_text_with_a_function.Goals as goal

pub returns-clause-spelled : goal.returns-clause-spelled
returns-clause-spelled c = keeps_is_spelled

pub returns-clause-safe : goal.returns-clause-safe
returns-clause-safe c = keeps
