-- A table from names and arities to numbers, as the list of its entries.
use Rattle.std.specs.Prelude.{◌≡◌, ℕ, List, [], ◌∷◌, ◌++◌, map, Bool, true, false, Option, Some, None}
use Rattle.type_terms.specs.Keys.{Name}
use Rattle.erl_tree.specs.Lists.{Among}
use Rattle.erl_tree.specs.Functions.{FunctionId}

-- a name and an arity, and their number
abbrev pub Entry : Type 0
Entry = FunctionId × ℕ

-- the names and arities of a table, in the order in which they were inserted
abbrev pub ids : List Entry → List FunctionId
ids entries = map (λ e. e.0) entries

-- What an insertion did: it added a new name at the end, or the name was there and the table stays as it was
abbrev pub IsInsertion : (added : Bool) → (old : List Entry) → FunctionId → ℕ → (new : List Entry) → Type 0
IsInsertion true old id number new = (Among id (ids old) → ⊥) × (new ≡ old ++ (id, number) ∷ [])
IsInsertion false old id number new = Among id (ids old) × (new ≡ old)

-- What a look-up gives: the number of the name's entry, or nothing where the table lacks the name
abbrev pub IsFound : List Entry → FunctionId → Option ℕ → Type 0
IsFound entries id (Some number) = Among (id, number) entries
IsFound entries id None = Among id (ids entries) → ⊥
