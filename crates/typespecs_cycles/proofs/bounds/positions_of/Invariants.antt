use Rattle.std.proofs.Common.{◌≡◌, take}
use Rattle.typespecs_rules.specs.Bounds.{bounded}
use Rattle.typespecs_cycles.specs.Positions.{KnowsPositions}
use Rattle.typespecs_cycles.proofs.bounds.positions_of.Given as goal

abbrev pub invariant-loop-bound : goal.invariant-loop-bound
invariant-loop-bound l = record {
  known : KnowsPositions l.table.entries (bounded (take l.bound-index l.bounds));
  count : l.position ≡ l.bound-index;
}
