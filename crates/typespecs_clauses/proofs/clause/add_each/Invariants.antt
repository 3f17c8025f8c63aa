use Rattle.std.proofs.Common.{◌≡◌, ◌++◌, take}
use Rattle.typespecs_rules.specs.TypeParts.{from_each, types_within}
use Rattle.typespecs_names.specs.Seen.{seen}
use Rattle.typespecs_clauses.proofs.clause.add_each.Given as goal

abbrev pub invariant-types : goal.invariant-types
invariant-types l = seen l.list.items ≡ seen l.initial.list.items ++ from_each types_within (take l.t-index l.types)
