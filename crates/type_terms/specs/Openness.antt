-- What tables and graphs that are made of definitions say of them.
use Rattle.std.specs.Prelude.{◌≡◌, ℕ, List, map, slice_get, Some, Bool, true}
use Rattle.std.specs.List.{Contains}
use Rattle.type_terms.specs.declared.term.Def.{Def}
use Rattle.type_terms.specs.declared.openness.Wanted.TheVariants.{Variables, Names}
use Rattle.type_terms.specs.BareNumbers.{bare_in, open_by}
use Rattle.type_terms.specs.Definitions.{IsOpenIn}

-- the definitions are open where the table says so
abbrev pub OpenWhereSaid : List Def → List (List Bool) → Type 0
OpenWhereSaid defs table = (n i : ℕ) → open_by table n i ≡ true → IsOpenIn defs n i

-- the table says that a definition is open in these variables
abbrev pub SaysOpen : List (List Bool) → ℕ → List ℕ → Type 0
SaysOpen table n variables = (i : ℕ) → Contains variables i → open_by table n i ≡ true

-- each variable that stands bare in a body, by the table, is one in which the table says that its definition is open
abbrev pub SaysAll : List Def → List (List Bool) → Type 0
SaysAll defs table = (n : ℕ) (def : Def) → slice_get defs n ≡ Some def → SaysOpen table n (bare_in Variables (open_by table) def.body)

-- the names that stand bare in each body, by the table
abbrev pub names_by : List (List Bool) → List Def → List (List ℕ)
names_by table defs = map (λ (def : Def). bare_in Names (open_by table) def.body) defs
