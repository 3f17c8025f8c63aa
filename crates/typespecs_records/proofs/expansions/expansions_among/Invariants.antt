use Rattle.std.proofs.Common.{◌≡◌, take}
use Rattle.typespecs_rules.specs.Declarations.{Declarations}
use Rattle.typespecs_rules.specs.RegularUse.{expanded_by}
use Rattle.typespecs_rules.specs.TypeParts.{from_each}
use Rattle.typespecs_names.specs.Numbers.{KnowsNumbers}
use Rattle.typespecs_names.specs.Seen.{seen}
use Rattle.typespecs_records.proofs.expansions.expansions_among.Given as goal

abbrev pub invariant-types : goal.invariant-types
invariant-types l = (d : Declarations) → KnowsNumbers l.numbers d → l.list ≡ from_each (expanded_by d) (seen (take l.t-index l.types))
