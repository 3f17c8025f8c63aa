-- Names that are new behind others: those of a list that stand neither among the others nor before in the list.
use Rattle.std.proofs.Common.{◌≡◌, Bool, true, false, cond, not, ◌||◌, List, [], ◌∷◌, ◌++◌, refl, ap, ◌∙◌}
use Rattle.std.specs.List.{filter}
use Rattle.std.proofs.lemmas.List.Elements.{filter-append}
use Rattle.type_terms.specs.Keys.{Name, same_name}
use Rattle.typespecs_rules.specs.TypeVariables.{first_occurrences}
use Rattle.typespecs_rules.specs.TypeFaults.{stands_among}
use Rattle.typespecs_clauses.proofs.NameLaws.{same-sym}
use Rattle.typespecs_single.specs.NewNames.{new_behind}

-- the names of a list in the order of first occurrence, with one more
firsts-push : (xs : List Name) (y : Name) → first_occurrences (xs ++ y ∷ []) ≡ first_occurrences xs ++ cond (stands_among y xs) [] (y ∷ [])
firsts-push [] y = refl
firsts-push (x ∷ xs) y =
    ap (λ ys. x ∷ filter other ys) (firsts-push xs y)
    ∙ ap (λ ys. x ∷ ys) (filter-append other (first_occurrences xs) (cond (stands_among y xs) [] (y ∷ []))
    ∙ ap (λ ys. filter other (first_occurrences xs) ++ ys) (last (same_name y x) (stands_among y xs) (same-sym x y)))
  where
    other : Name → Bool
    other z = not (same_name x z)

    last : (s b : Bool) → same_name x y ≡ s → filter other (cond b [] (y ∷ [])) ≡ cond (s || b) [] (y ∷ [])
    last true true e = refl
    last false true e = refl
    last true false e = ap (λ t. cond (not t) (y ∷ []) []) e
    last false false e = ap (λ t. cond (not t) (y ∷ []) []) e

-- one more name is new where it stands neither among the others nor before
pub new-push : (names xs : List Name) (y : Name) → new_behind names (xs ++ y ∷ []) ≡ new_behind names xs ++ cond (stands_among y names || stands_among y xs) [] (y ∷ [])
new-push names xs y =
    ap (filter (λ x. not (stands_among x names))) (firsts-push xs y)
    ∙ (filter-append (λ x. not (stands_among x names)) (first_occurrences xs) (cond (stands_among y xs) [] (y ∷ []))
    ∙ ap (λ ys. new_behind names xs ++ ys) (last (stands_among y names) (stands_among y xs) refl))
  where
    last : (s b : Bool) → stands_among y names ≡ s → filter (λ x. not (stands_among x names)) (cond b [] (y ∷ [])) ≡ cond (s || b) [] (y ∷ [])
    last true true e = refl
    last false true e = refl
    last true false e = ap (λ t. cond (not t) (y ∷ []) []) e
    last false false e = ap (λ t. cond (not t) (y ∷ []) []) e
