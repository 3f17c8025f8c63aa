use Rattle.std.proofs.Common.{◌≡◌, ◌++◌, take}
use Rattle.typespecs_rules.specs.TypeParts.{from_each, types_within}
use Rattle.typespecs_rules.specs.Bounds.{Bound}
use Rattle.typespecs_names.specs.Seen.{seen}
use Rattle.typespecs_clauses.proofs.clause.add_bounds.Given as goal

abbrev pub invariant-bounds : goal.invariant-bounds
invariant-bounds l = seen l.list.items ≡ seen l.initial.list.items ++ from_each (λ (b : Bound). types_within b.1) (take l.bound-index l.bounds)
