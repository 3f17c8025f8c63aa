use Rattle.typespecs_laws.proofs.OfModules.{of-module}
use Rattle.typespecs_laws.proofs.laws_of_instances.a_module_has_finitely_many_instances.Goals as goal

pub returns : goal.returns
returns c = of-module
