use Rattle.typespecs_rules.specs.Declarations.{Declarations}
use Rattle.typespecs_records.specs.Settled.{Knows, StandsSoFar}
use Rattle.typespecs_records.proofs.settling.settle_in_order.Given as goal

abbrev pub invariant-order : goal.invariant-order
invariant-order l = (d : Declarations) → Knows l.source d → StandsSoFar d l.so_far
