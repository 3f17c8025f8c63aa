use Rattle.erl_runs.proofs.BoundFree.{within-apply}
use Rattle.erl_runs.proofs.laws_of_runs.the_bound_changes_nothing.Goals as goal

pub returns : goal.returns
returns c = within-apply
