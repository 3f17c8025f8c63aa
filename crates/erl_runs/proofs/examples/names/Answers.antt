use Rattle.erl_runs.proofs.MembershipExamples.{list, other-list, improper}
use Rattle.erl_runs.proofs.examples.names.Goals as goal

pub returns-clause-list : goal.returns-clause-list
returns-clause-list c = list

pub returns-clause-other_list : goal.returns-clause-other_list
returns-clause-other_list c = other-list

pub returns-clause-improper : goal.returns-clause-improper
returns-clause-improper c = improper
