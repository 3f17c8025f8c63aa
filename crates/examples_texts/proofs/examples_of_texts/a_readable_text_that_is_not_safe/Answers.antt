use Rattle.examples_texts.proofs.TextsSpelled.{breaks_is_spelled}
use Rattle.examples_texts.proofs.TextsReadable.{breaks-readable}
use Rattle.examples_texts.proofs.SafeTexts.{breaks}
use Rattle.examples_texts.proofs.examples_of_texts.a_readable_text_that_is_not_safe.Goals as goal

pub returns-clause-spelled : goal.returns-clause-spelled
returns-clause-spelled c = breaks_is_spelled

pub returns-clause-readable : goal.returns-clause-readable
returns-clause-readable c = breaks-readable

pub returns-clause-not_safe : goal.returns-clause-not_safe
returns-clause-not_safe c = breaks
