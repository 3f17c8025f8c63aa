use Rattle.erl_runs.proofs.MembershipExamples.{elements, other-size, other-elements}
use Rattle.erl_runs.proofs.examples.tuples.Goals as goal

pub returns-clause-elements : goal.returns-clause-elements
returns-clause-elements c = elements

pub returns-clause-other_size : goal.returns-clause-other_size
returns-clause-other_size c = other-size

pub returns-clause-other_elements : goal.returns-clause-other_elements
returns-clause-other_elements c = other-elements
