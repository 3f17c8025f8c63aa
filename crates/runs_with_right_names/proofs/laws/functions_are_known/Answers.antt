use Rattle.runs_with_right_names.proofs.FunNumbers.{defined-among}
use Rattle.runs_with_right_names.proofs.laws.functions_are_known.Goals as goal
use Rattle.erl_tree.specs.Functions.{functions_of}

pub returns : goal.returns
returns c m outside f a = defined-among f (functions_of m) a
