use Rattle.typespecs_lemmas.proofs.FirstFault.{no-first}
use Rattle.typespecs_laws.proofs.laws_of_modules.specs_have_no_fault.Goals as goal

pub returns : goal.returns
returns c = no-first
