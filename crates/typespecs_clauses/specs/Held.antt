-- The variables that stand in the parts of terms, and marks of them.
use Rattle.std.specs.Prelude.{◌≡◌, ℕ, List, [], ◌∷◌, get_or, Option, Some, None as Nothing, Bool, false, ◌||◌}
use Rattle.std.specs.List.{list_any}
use Rattle.type_terms.specs.declared.term.Field.{Field}
use Rattle.type_terms.specs.declared.term.Term.{Term}
use Rattle.typespecs_rules.specs.SpecTerms.{holds_variable}

-- whether a variable stands in one of these terms
abbrev pub holds_in_terms : ℕ → List Term → Bool
holds_in_terms n ts = list_any (holds_variable n) ts

-- in the term of one of these fields
abbrev pub holds_in_fields : ℕ → List Field → Bool
holds_in_fields n [] = false
holds_in_fields n (field ∷ fields) = holds_variable n field.term || holds_in_fields n fields

-- in a rest
abbrev pub holds_in_rest : ℕ → Option Term → Bool
holds_in_rest n Nothing = false
holds_in_rest n (Some t) = holds_variable n t

-- the numbers that pass the test are marked besides those that were
abbrev pub Marks : (ℕ → Bool) → List Bool → List Bool → Type 0
Marks holds old new = (n : ℕ) → get_or new n false ≡ (get_or old n false || holds n)
