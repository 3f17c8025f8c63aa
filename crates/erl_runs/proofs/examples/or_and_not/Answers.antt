use Rattle.erl_runs.proofs.MembershipExamples.{or, not-or, and, not-and, not-atom, not-not}
use Rattle.erl_runs.proofs.examples.or_and_not.Goals as goal

pub returns-clause-or : goal.returns-clause-or
returns-clause-or c = or

pub returns-clause-not_or : goal.returns-clause-not_or
returns-clause-not_or c = not-or

pub returns-clause-and : goal.returns-clause-and
returns-clause-and c = and

pub returns-clause-not_and : goal.returns-clause-not_and
returns-clause-not_and c = not-and

pub returns-clause-not : goal.returns-clause-not
returns-clause-not c = not-atom

pub returns-clause-not_not : goal.returns-clause-not_not
returns-clause-not_not c = not-not
