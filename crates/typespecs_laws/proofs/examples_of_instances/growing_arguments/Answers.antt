use Rattle.typespecs_laws.proofs.GrowingInstances.{not-regular, always-another}
use Rattle.typespecs_laws.proofs.examples_of_instances.growing_arguments.Goals as goal

pub returns-clause-not_regular : goal.returns-clause-not_regular
returns-clause-not_regular c = not-regular

pub returns-clause-instances : goal.returns-clause-instances
returns-clause-instances c = always-another
