use Rattle.examples_rules.proofs.FiniteInstances.{lists-finite, growing-infinite}
use Rattle.examples_rules.proofs.instances.finitely_many_instances.Goals as goal

pub returns-clause-of_lists : goal.returns-clause-of_lists
returns-clause-of_lists c = lists-finite

pub returns-clause-of_growing_arguments : goal.returns-clause-of_growing_arguments
returns-clause-of_growing_arguments c = growing-infinite
