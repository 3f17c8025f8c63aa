use Rattle.typespecs_laws.proofs.ArrowNames.{arrow-names}
use Rattle.typespecs_laws.proofs.OfModules.{of-arrows}
use Rattle.typespecs_laws.proofs.laws_of_instances.arrows_have_finitely_many_instances.Goals as goal

pub returns-clause-defined : goal.returns-clause-defined
returns-clause-defined c = λ m s h. arrow-names m s h.terms

pub returns-clause-finitely_many : goal.returns-clause-finitely_many
returns-clause-finitely_many c = of-arrows
