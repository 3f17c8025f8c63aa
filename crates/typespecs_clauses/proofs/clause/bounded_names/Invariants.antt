use Rattle.std.proofs.Common.{◌≡◌, take}
use Rattle.typespecs_rules.specs.Bounds.{bounded}
use Rattle.typespecs_clauses.specs.Names.{texts}
use Rattle.typespecs_clauses.proofs.clause.bounded_names.Given as goal

abbrev pub invariant-bounds : goal.invariant-bounds
invariant-bounds l = texts l.names.items ≡ bounded (take l.bound-index l.bounds)
