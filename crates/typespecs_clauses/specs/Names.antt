-- Numbers by names, and lists of references to names.
use Rattle.std.specs.Prelude.{ℕ, List, [], ◌∷◌, map, Option, Some, None, cond}
use Rattle.std.specs.Borrow.{Bor}
use Rattle.type_terms.specs.Keys.{Name, same_name}

-- a name with its number
abbrev pub Entry : Type 0
Entry = Name × ℕ

-- the entries of a map, in its order
abbrev pub entries_seen : List (Bor (List ℕ) × ℕ) → List Entry
entries_seen es = map (λ e. (e.0.now, e.1)) es

-- the number of a name, by the first entry that has it
abbrev pub number_of : List Entry → Name → Option ℕ
number_of [] x = None
number_of (e ∷ es) x = cond (same_name x e.0) (Some e.1) (number_of es x)

-- the names to which references lead
abbrev pub texts : List (Bor (List ℕ)) → List Name
texts list = map (λ b. b.now) list
