-- One more name of a list whose names are counted.
use Rattle.std.proofs.Common.{◌≡◌, ℕ, zero, suc, ◌+◌, Bool, true, false, cond, not, List, [], ◌∷◌, ◌++◌, length, refl, sym, ap, ◌∙◌, Option, Some, None, is_some, Bor, add-one}
use Rattle.std.specs.Prelude.{if◌then◌else◌, Result, Ok, Err, OnOk}
use Rattle.std.specs.List.{filter}
use Rattle.std.proofs.lemmas.List.Elements.{filter-append}
use Rattle.std.proofs.lemmas.List.{map-append, append-nil}
use Rattle.type_terms.specs.Keys.{Name, same_name}
use Rattle.type_terms.proofs.KeyLaws.{name-is}
use Rattle.typespecs_rules.specs.TypeVariables.{first_occurrences, occurrences}
use Rattle.typespecs_clauses.specs.declared.variables.Occurrences.{Occurrences}
use Rattle.typespecs_clauses.specs.Names.{Entry, number_of, texts}
use Rattle.typespecs_clauses.specs.Occurrences.{times, AreOccurrences}
use Rattle.typespecs_clauses.proofs.NameLaws.{same-sym}

filter-push : (p : Name → Bool) (xs : List Name) (y : Name) → filter p (xs ++ y ∷ []) ≡ filter p xs ++ cond (p y) (y ∷ []) []
filter-push p xs y = filter-append p xs (y ∷ []) ∙ ap (λ ys. filter p xs ++ ys) (by (p y))
  where
    by : (b : Bool) → (if b then y ∷ [] else []) ≡ cond b (y ∷ []) []
    by true = refl
    by false = refl

length-push : (xs : List Name) (y : Name) → length (xs ++ y ∷ []) ≡ suc (length xs)
length-push [] y = refl
length-push (x ∷ xs) y = ap suc (length-push xs y)

-- a name stands once more, and the others as often as before
once-more : (xs : List Name) (x y : Name) (b : Bool) → same_name x y ≡ b → occurrences x (xs ++ y ∷ []) ≡ cond b (suc (occurrences x xs)) (occurrences x xs)
once-more xs x y true e = ap length (filter-push (same_name x) xs y ∙ ap (λ b. filter (same_name x) xs ++ cond b (y ∷ []) []) e) ∙ length-push (filter (same_name x) xs) y
once-more xs x y false e = ap length (filter-push (same_name x) xs y ∙ (ap (λ b. filter (same_name x) xs ++ cond b (y ∷ []) []) e ∙ append-nil (filter (same_name x) xs)))

abbrev pub AreCounts : List Entry → List Name → Type 0
AreCounts counts xs = (x : Name) → number_of counts x ≡ times (occurrences x xs)

abbrev pub next : Option ℕ → ℕ
next None = 1
next (Some n) = n + 1

-- the table with one more of a name
counts-more : (xs : List Name) (y : Name) (old new : List Entry) (n : ℕ) → AreCounts old xs → n ≡ next (number_of old y) → ((x : Name) → number_of new x ≡ cond (same_name x y) (Some n) (number_of old x)) → AreCounts new (xs ++ y ∷ [])
counts-more xs y old new n are is set x = set x ∙ by (same_name x y) refl
  where
    number : (k : ℕ) → Some (next (times k)) ≡ times (suc k)
    number zero = refl
    number (suc k) = ap Some (add-one (suc k))

    by : (b : Bool) → same_name x y ≡ b → cond b (Some n) (number_of old x) ≡ times (occurrences x (xs ++ y ∷ []))
    by true e =
        ap Some is ∙ (ap (λ (z : Name). Some (next (number_of old z))) (sym (name-is x y e)) ∙ (ap (λ o. Some (next o)) (are x) ∙ (number (occurrences x xs) ∙ ap times (sym (once-more xs x y true e)))))
    by false e = are x ∙ ap times (sym (once-more xs x y false e))

-- the names in the order of first occurrence
firsts-push : (xs : List Name) (y : Name) → first_occurrences (xs ++ y ∷ []) ≡ first_occurrences xs ++ cond (is_some (times (occurrences y xs))) [] (y ∷ [])
firsts-push [] y = refl
firsts-push (x ∷ xs) y =
    ap (λ ys. x ∷ filter other ys) (firsts-push xs y)
    ∙ ap (λ ys. x ∷ ys) (filter-append other (first_occurrences xs) (cond (is_some (times (occurrences y xs))) [] (y ∷ []))
    ∙ ap (λ ys. filter other (first_occurrences xs) ++ ys) (by (same_name y x) refl))
  where
    other : Name → Bool
    other z = not (same_name x z)

    none : (n : ℕ) → filter other (cond (is_some (times n)) [] (y ∷ [])) ≡ cond (other y) (cond (is_some (times n)) [] (y ∷ [])) []
    none zero = go (other y)
      where
        go : (c : Bool) → (if c then y ∷ [] else []) ≡ cond c (y ∷ []) []
        go true = refl
        go false = refl
    none (suc n) = go (other y)
      where
        go : (c : Bool) → ◌≡◌ {A = List Name} [] (cond c [] [])
        go true = refl
        go false = refl

    by : (b : Bool) → same_name y x ≡ b → filter other (cond (is_some (times (occurrences y xs))) [] (y ∷ [])) ≡ cond (is_some (times (length (if b then x ∷ filter (same_name y) xs else filter (same_name y) xs)))) [] (y ∷ [])
    by true e = none (occurrences y xs) ∙ ap (λ c. cond (not c) (cond (is_some (times (occurrences y xs))) [] (y ∷ [])) []) (same-sym x y ∙ e)
    by false e = none (occurrences y xs) ∙ ap (λ c. cond (not c) (cond (is_some (times (occurrences y xs))) [] (y ∷ [])) []) (same-sym x y ∙ e)

-- what a list of names with one more has, where the name is new or stands there already
pub add-new : (old : Occurrences) (counts : List Entry) (firsts : List (Bor (List ℕ))) (xs : List Name) (y : Bor (List ℕ)) → AreOccurrences old xs → number_of old.counts y.now ≡ None → firsts ≡ old.firsts.items ++ y ∷ [] → ((x : Name) → number_of counts x ≡ cond (same_name x y.now) (Some 1) (number_of old.counts x))
    → ((x : Name) → number_of counts x ≡ times (occurrences x (xs ++ y.now ∷ []))) × (texts firsts ≡ first_occurrences (xs ++ y.now ∷ []))
add-new old counts firsts xs y are none pushed set = (
  counts-more xs y.now old.counts counts 1 are.counts (ap next (sym none)) set,
  ap texts pushed ∙ (map-append (λ (b : Bor (List ℕ)). b.now) old.firsts.items (y ∷ []) ∙ (ap (λ ys. ys ++ y.now ∷ []) are.firsts
      ∙ (ap (λ o. first_occurrences xs ++ cond (is_some o) [] (y.now ∷ [])) (sym none ∙ are.counts y.now) ∙ sym (firsts-push xs y.now)))),
)

pub add-more : (old : Occurrences) (counts : List Entry) (n m : ℕ) (xs : List Name) (y : Name) → AreOccurrences old xs → number_of old.counts y ≡ Some n → m ≡ n + 1 → ((x : Name) → number_of counts x ≡ cond (same_name x y) (Some m) (number_of old.counts x))
    → ((x : Name) → number_of counts x ≡ times (occurrences x (xs ++ y ∷ []))) × (texts old.firsts.items ≡ first_occurrences (xs ++ y ∷ []))
add-more old counts n m xs y are there is set = (
  counts-more xs y old.counts counts m are.counts (is ∙ ap next (sym there)) set,
  are.firsts ∙ (sym (append-nil (first_occurrences xs)) ∙ (ap (λ o. first_occurrences xs ++ cond (is_some o) [] (y ∷ [])) (sym there ∙ are.counts y) ∙ sym (firsts-push xs y))),
)

pub on-ok : {X E : Type 0} (r : Result X E) (P Q : Type 0) → (P → Q) → OnOk r P → OnOk r Q
on-ok (Ok x) P Q f p = f p
on-ok (Err e) P Q f p = tt
