use Rattle.std.proofs.Common.{take}
use Rattle.typespecs.specs.Reads.{parameters_in}
use Rattle.typespecs.proofs.definitions.parameters.Given as goal

abbrev pub invariant-loop-number : goal.invariant-loop-number
invariant-loop-number l = parameters_in l.table (take l.number l.names)
