use Rattle.etylizer_program.proofs.SafeTexts.{dollar_not_safe}
use Rattle.etylizer_program.proofs.examples.a_text_that_is_not_safe.Goals as goal

pub returns : goal.returns
returns c = dollar_not_safe
