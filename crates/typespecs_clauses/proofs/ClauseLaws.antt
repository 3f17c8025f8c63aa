-- The variables of a clause, collected one after another.
use Rattle.std.proofs.Common.{◌≡◌, ℕ, ◌+◌, ◌<◌, List, [], ◌∷◌, ◌++◌, map, take, length, get_or, refl, sym, ap, ◌∙◌, subst, append_assoc, append-nil, Bor}
use Rattle.std.specs.Prelude.{Option, Some, None}
use Rattle.std.specs.List.{filter_map}
use Rattle.std.proofs.lemmas.List.{take_more, map_more, map-append}
use Rattle.std.proofs.lemmas.List.Elements.{filter_map-append}
use Rattle.type_terms.specs.Keys.{Name}
use Rattle.erl_tree.specs.declared.token.Node.{Node}
use Rattle.erl_tree.specs.declared.type_expr.TypeKind.{TypeKind}
use Rattle.erl_tree.specs.declared.form.SpecClauseKind.{SpecClauseKind}
use Rattle.typespecs_rules.specs.TypeParts.{from_each, types_within}
use Rattle.typespecs_rules.specs.TypeVariables.{own_variable, variables_of, clause_types, clause_occurrences}
use Rattle.typespecs_rules.specs.Bounds.{Bound, bounded}
use Rattle.typespecs_rules.specs.TypeVariables.{place_among}
use Rattle.typespecs_names.specs.Seen.{seen}
use Rattle.typespecs_clauses.specs.declared.variables.Occurrences.{Occurrences}
use Rattle.typespecs_clauses.specs.Names.{Entry, number_of, texts}
use Rattle.typespecs_clauses.specs.Occurrences.{AreOccurrences, ArePlaces, as_list}

module _ {A B : Type 0} (f : A → List B) where
  pub each-append : (xs ys : List A) → from_each f (xs ++ ys) ≡ from_each f xs ++ from_each f ys
  each-append [] ys = refl
  each-append (x ∷ xs) ys = ap (λ more. f x ++ more) (each-append xs ys) ∙ sym (append_assoc (f x) (from_each f xs) (from_each f ys))

  pub each-push : (xs : List A) (y : A) → from_each f (xs ++ y ∷ []) ≡ from_each f xs ++ f y
  each-push xs y = each-append xs (y ∷ []) ∙ ap (λ more. from_each f xs ++ more) (append-nil (f y))

  -- one more element of a list
  pub each-step : (xs : List A) (i : ℕ) (d x : A) → i < length xs → x ≡ get_or xs i d → (start old new : List B) → old ≡ start ++ from_each f (take i xs) → new ≡ old ++ f x → new ≡ start ++ from_each f (take (i + 1) xs)
  each-step xs i d x lt is start old new before added =
      added
      ∙ (ap (λ ys. ys ++ f x) before
      ∙ (append_assoc start (from_each f (take i xs)) (f x)
      ∙ ap (λ ys. start ++ ys) (ap (λ y. from_each f (take i xs) ++ f y) is ∙ (sym (each-push (take i xs) (get_or xs i d)) ∙ ap (from_each f) (sym (take_more xs i d lt))))))

pub each-mapped : {A B C : Type 0} (f : B → List C) (g : A → B) (xs : List A) → from_each f (map g xs) ≡ from_each (λ x. f (g x)) xs
each-mapped f g [] = refl
each-mapped f g (x ∷ xs) = ap (λ more. f (g x) ++ more) (each-mapped f g xs)

pub each-nested : {A B C : Type 0} (f : B → List C) (g : A → List B) (xs : List A) → from_each f (from_each g xs) ≡ from_each (λ x. from_each f (g x)) xs
each-nested f g [] = refl
each-nested f g (x ∷ xs) = each-append f (g x) (from_each g xs) ∙ ap (λ more. from_each f (g x) ++ more) (each-nested f g xs)

-- ---- the variables of collected types

abbrev pub own_in : List (Bor (Node TypeKind)) → List Name
own_in ts = from_each own_variable (seen ts)

pub own-more : (ts : List (Bor (Node TypeKind))) (i : ℕ) (d : Bor (Node TypeKind)) → i < length ts → own_in (take (i + 1) ts) ≡ own_in (take i ts) ++ own_variable (get_or ts i d).now
own-more ts i d lt = ap (from_each own_variable) (map_more (λ (b : Bor (Node TypeKind)). b.now) ts i d lt) ∙ each-push own_variable (seen (take i ts)) (get_or ts i d).now

module _ (ts : List (Bor (Node TypeKind))) (i : ℕ) (t : Bor (Node TypeKind)) (lt : i < length ts) (is : t ≡ get_or ts i t) where
  pub own-at : (names : List Name) → names ≡ own_variable t.now → own_in (take i ts) ++ names ≡ own_in (take (i + 1) ts)
  own-at names e = ap (λ ns. own_in (take i ts) ++ ns) (e ∙ ap (λ (b : Bor (Node TypeKind)). own_variable b.now) is) ∙ sym (own-more ts i t lt)

  pub found-more : (o : Option Name) (x : Name) (found : Occurrences) → as_list o ≡ own_variable t.now → o ≡ Some x → AreOccurrences found (own_in (take i ts) ++ x ∷ []) → AreOccurrences found (own_in (take (i + 1) ts))
  found-more o x found e some are = subst (AreOccurrences found) (own-at (x ∷ []) (ap as_list (sym some) ∙ e)) are

  pub found-same : (o : Option Name) (found : Occurrences) → as_list o ≡ own_variable t.now → o ≡ None → AreOccurrences found (own_in (take i ts)) → AreOccurrences found (own_in (take (i + 1) ts))
  found-same o found e none are = subst (AreOccurrences found) (sym (append-nil (own_in (take i ts))) ∙ own-at [] (ap as_list (sym none) ∙ e)) are

  module _ (h : Name → Option ℕ) where
    at-place : (numbers : List ℕ) → numbers ≡ filter_map h (own_variable t.now) → filter_map h (own_in (take i ts)) ++ numbers ≡ filter_map h (own_in (take (i + 1) ts))
    at-place numbers e =
        ap (λ ns. filter_map h (own_in (take i ts)) ++ ns) e ∙ (sym (filter_map-append h (own_in (take i ts)) (own_variable t.now)) ∙ ap (filter_map h) (own-at (own_variable t.now) refl))

    pub row-more : (o : Option ℕ) (n m : ℕ) (row new : List ℕ) → as_list o ≡ filter_map h (own_variable t.now) → o ≡ Some n → m ≡ n → row ≡ filter_map h (own_in (take i ts)) → new ≡ row ++ m ∷ [] → new ≡ filter_map h (own_in (take (i + 1) ts))
    row-more o n m row new e some same before pushed =
        pushed ∙ ((λ j. before j ++ same j ∷ []) ∙ at-place (n ∷ []) (ap as_list (sym some) ∙ e))

    pub row-same : (o : Option ℕ) (row : List ℕ) → as_list o ≡ filter_map h (own_variable t.now) → o ≡ None → row ≡ filter_map h (own_in (take i ts)) → row ≡ filter_map h (own_in (take (i + 1) ts))
    row-same o row e none before = before ∙ (sym (append-nil (filter_map h (own_in (take i ts)))) ∙ at-place [] (ap as_list (sym none) ∙ e))

pub own-within : (t : Node TypeKind) (ts : List (Bor (Node TypeKind))) → seen ts ≡ types_within t → own_in ts ≡ variables_of t
own-within t ts e = ap (from_each own_variable) e

-- those of a whole clause
pub own-clause : (c : SpecClauseKind) (first second third : List (Node TypeKind)) → first ≡ from_each types_within c.params → second ≡ first ++ types_within c.result → third ≡ second ++ from_each types_within (map (λ b. b.1) c.bounds) → from_each own_variable third ≡ clause_occurrences c
own-clause c first second third e f g =
    ap (from_each own_variable) (g ∙ (ap (λ ts. ts ++ from_each types_within (map (λ b. b.1) c.bounds)) (f ∙ ap (λ ts. ts ++ types_within c.result) e)
    ∙ (append_assoc (from_each types_within c.params) (types_within c.result) (from_each types_within (map (λ b. b.1) c.bounds))
    ∙ sym (each-append types_within c.params (c.result ∷ map (λ b. b.1) c.bounds)))))
    ∙ each-nested own_variable types_within (clause_types c)

-- ---- bounds

pub bounded-more : (bs : List Bound) (i : ℕ) (b : Bound) → i < length bs → b ≡ get_or bs i b → (names new : List (Bor (List ℕ))) (n : Bor (List ℕ)) → texts names ≡ bounded (take i bs) → n.now ≡ b.0 → new ≡ names ++ n ∷ [] → texts new ≡ bounded (take (i + 1) bs)
bounded-more bs i b lt is names new n before same pushed =
    ap texts pushed ∙ (map-append (λ (r : Bor (List ℕ)). r.now) names (n ∷ []) ∙ ((λ j. before j ++ (same ∙ ap (λ (x : Bound). x.0) is) j ∷ []) ∙ sym (map_more (λ (x : Bound). x.0) bs i b lt)))

abbrev pub row_of : List Bound → Bound → List ℕ
row_of bs b = filter_map (place_among (bounded bs)) (variables_of b.1)

pub graph-more : (bs : List Bound) (places : List Entry) → ArePlaces places (bounded bs) → (i : ℕ) (b : Bound) → i < length bs → b ≡ get_or bs i b → (graph new : List (List ℕ)) (row : List ℕ) → graph ≡ map (row_of bs) (take i bs) → row ≡ filter_map (number_of places) (variables_of b.1) → new ≡ graph ++ row ∷ [] → new ≡ map (row_of bs) (take (i + 1) bs)
graph-more bs places are i b lt is graph new row before e pushed =
    pushed ∙ ((λ j. before j ++ (e ∙ (ap (λ h. filter_map h (variables_of b.1)) (λ k x. are x k) ∙ ap (row_of bs) is)) j ∷ []) ∙ sym (map_more (row_of bs) bs i b lt))
