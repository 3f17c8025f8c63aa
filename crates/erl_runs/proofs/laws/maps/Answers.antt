use Rattle.erl_runs.proofs.Equations.{in-Map}
use Rattle.erl_runs.proofs.laws.maps.Goals as goal

pub returns : goal.returns
returns c program k v defs inst fields rest_int rest_atom = in-Map program k defs inst fields rest_int rest_atom v
