-- A table of positions by name.
use Rattle.std.specs.Prelude.{◌≡◌, ℕ, List, Option}
use Rattle.std.specs.Borrow.{Bor}
use Rattle.std.specs.Map.{lookup}
use Rattle.std.specs.Str.{bytes_eq}
use Rattle.type_terms.specs.Keys.{Name}
use Rattle.typespecs_rules.specs.TypeVariables.{place_among}

-- the entries of a table: a name and a position
abbrev pub Entries : Type 0
Entries = List (Bor (List ℕ) × ℕ)

-- the position of a name in a table
abbrev pub found_in : Entries → Name → Option ℕ
found_in entries x = lookup (λ k. bytes_eq x k.now) entries

-- a table gives the first position of each of these names
abbrev pub KnowsPositions : Entries → List Name → Type 0
KnowsPositions entries names = (x : Name) → found_in entries x ≡ place_among names x
