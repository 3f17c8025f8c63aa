use Rattle.erl_runs.proofs.FiniteMapLaws.{same-row}
use Rattle.erl_runs.proofs.laws.a_map_is_its_look_ups.Goals as goal

pub returns : goal.returns
returns c b = same-row {b = b}
