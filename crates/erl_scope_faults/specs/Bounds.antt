-- Arities that fit into the machine's numbers.
use Rattle.std.specs.Prelude.{◌<◌, ◌^◌, List}
use Rattle.erl_tree.specs.Lists.{Among}
use Rattle.erl_tree.specs.Functions.{FunctionId}

abbrev pub AreBounded : List FunctionId → Type 0
AreBounded ids = (id : FunctionId) → Among id ids → id.arity < 2 ^ 64
