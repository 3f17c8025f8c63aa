use Rattle.typespecs_lemmas.proofs.FirstFault.{one-first}
use Rattle.typespecs_laws.proofs.laws_of_modules.one_fault_is_first.Goals as goal

pub returns : goal.returns
returns c = one-first
