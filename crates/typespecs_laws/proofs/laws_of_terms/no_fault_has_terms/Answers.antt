use Rattle.typespecs_lemmas.proofs.ModuleTerms.{specs-there}
use Rattle.typespecs_laws.proofs.laws_of_terms.no_fault_has_terms.Goals as goal

pub returns : goal.returns
returns c = specs-there
