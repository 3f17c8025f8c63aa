use Rattle.erl_runs.proofs.MembershipStability.{in-stable}
use Rattle.erl_runs.proofs.laws.not_outside_is_inside.Goals as goal

pub returns : goal.returns
returns c = in-stable
