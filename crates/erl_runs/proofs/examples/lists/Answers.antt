use Rattle.erl_runs.proofs.MembershipExamples.{cell, other-head}
use Rattle.erl_runs.proofs.examples.lists.Goals as goal

pub returns-clause-cell : goal.returns-clause-cell
returns-clause-cell c = cell

pub returns-clause-other_head : goal.returns-clause-other_head
returns-clause-other_head c = other-head
