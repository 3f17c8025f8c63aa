use Rattle.erl_runs.proofs.InstanceReads.{in-replaced}
use Rattle.erl_runs.proofs.laws_of_levels.replacing_is_reading_under_an_instance.Goals as goal

pub returns : goal.returns
returns c program k v terms t defs inst = in-replaced terms defs inst program k v t
