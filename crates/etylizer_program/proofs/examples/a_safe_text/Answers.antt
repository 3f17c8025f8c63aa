use Rattle.etylizer_program.proofs.SafeTexts.{safe_text}
use Rattle.etylizer_program.proofs.examples.a_safe_text.Goals as goal

pub returns : goal.returns
returns c = safe_text
