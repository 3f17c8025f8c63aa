use Rattle.typespecs_laws.proofs.ListInstances.{lists-regular, two-instances, second-occurs}
use Rattle.typespecs_laws.proofs.examples_of_instances.lists_of_lists.Goals as goal

pub returns-clause-regular : goal.returns-clause-regular
returns-clause-regular c = lists-regular

pub returns-clause-instances : goal.returns-clause-instances
returns-clause-instances c = two-instances

pub returns-clause-occurs : goal.returns-clause-occurs
returns-clause-occurs c = second-occurs
