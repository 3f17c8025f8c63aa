-- A table of names, as the list of them: the number of a name is its position, from 0.
use Rattle.std.specs.Prelude.{◌≡◌, ℕ, ◌<◌, List, [], ◌∷◌, ◌++◌, ◌⊎◌, length, map, get_or, Option, Some, None}
use Rattle.std.specs.declared.alloc.Global.{Global}
use Rattle.std.specs.declared.vec.Vec.{Vec}
use Rattle.type_terms.specs.Keys.{Name}

abbrev pub names_in : List (Vec ℕ Global) → List Name
names_in keys = map (λ k. k.items) keys

-- the name with a number
abbrev pub name_at : List Name → ℕ → Name
name_at names n = get_or names n []

abbrev pub HasNumber : List Name → Name → ℕ → Type 0
HasNumber names x n = (n < length names) × (name_at names n ≡ x)

-- what a look-up gives
abbrev pub IsNumber : List Name → Name → Option ℕ → Type 0
IsNumber names x (Some n) = HasNumber names x n
IsNumber names x None = (n : ℕ) → HasNumber names x n → ⊥

-- a name was added at the end, or nothing changed
abbrev pub IsGrown : Name → (old new : List Name) → Type 0
IsGrown x old new = (new ≡ old) ⊎ ((new ≡ old ++ x ∷ []) × ((n : ℕ) → HasNumber old x n → ⊥))

-- no name has two numbers
abbrev pub HaveOneNumber : List Name → Type 0
HaveOneNumber names = (i j : ℕ) → i < length names → j < length names → name_at names i ≡ name_at names j → i ≡ j
