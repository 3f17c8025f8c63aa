-- Parts of sets of keys, and which keys they have.
use Rattle.std.specs.Prelude.{ℤ, ◌≤◌, ◌-◌, ◌^◌, List, Bool, true, false, ◌&&◌, Option, Some, None}
use Rattle.std.specs.List.{list_any, All}
use Rattle.std.specs.Int.RustNames.{unsigned_abs}
use Rattle.type_terms.specs.declared.term.Key.{Key}
use Rattle.type_terms.specs.declared.term.Key.TheVariants.{Int as IntKey, Atom as AtomKey}
use Rattle.type_terms.specs.Keys.{same_name}
use Rattle.type_terms.specs.Reading.{at_least, at_most}
use Rattle.key_sets.specs.declared.part.Part.{Part}
use Rattle.key_sets.specs.declared.part.Part.TheVariants.{Integers, Atom, Atoms}

-- whether a part has a key
abbrev pub part_has : Part → Key → Bool
part_has (Integers low high) (IntKey n) = at_least low n && at_most high n
part_has (Atom a) (AtomKey b) = same_name b a
part_has Atoms (AtomKey b) = true
part_has _ _ = false

-- whether some part has a key
abbrev pub parts_have : List Part → Key → Bool
parts_have parts key = list_any (λ part. part_has part key) parts

-- an end is open, or at most 2^127 - 2 away from 0
abbrev pub IsLimitedEnd : Option ℤ → Type 0
IsLimitedEnd None = Unit {0}
IsLimitedEnd (Some n) = unsigned_abs n ≤ 2 ^ 127 - 2

-- the ends of a range are such ends
abbrev pub IsLimited : Part → Type 0
IsLimited (Integers low high) = IsLimitedEnd low × IsLimitedEnd high
IsLimited _ = Unit {0}

-- so are the ends of each part
abbrev pub AreLimited : List Part → Type 0
AreLimited parts = All IsLimited parts
