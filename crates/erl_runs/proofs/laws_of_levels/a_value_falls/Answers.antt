use Rattle.erl_runs.proofs.Falls.{in-falls}
use Rattle.erl_runs.proofs.laws_of_levels.a_value_falls.Goals as goal

pub returns : goal.returns
returns c = in-falls
