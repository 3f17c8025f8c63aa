-- One more variable, or one more binding, at the end of a list.
use Rattle.std.proofs.Common.{◌≡◌, ℕ, suc, zero, ◌+◌, ◌<◌, Bool, true, false, cond, List, [], ◌∷◌, ◌++◌, length, take, map, slice_get, get_or, refl, sym, ap, ◌∙◌, subst, Option, Some, None, arith}
use Rattle.std.specs.Option.{option_or, option_flatten, option_map, option_and_then}
use Rattle.std.proofs.lemmas.List.{append-nil, take_more, map_more, length-take-le}
use Rattle.erl_tree.specs.declared.token.Place.{Place}
use Rattle.erl_scope_rules.specs.declared.resolved.Resolved.{Resolved}
use Rattle.erl_scope_rules.specs.Bindings.{same_place, next_number}
use Rattle.erl_scope_numbers.specs.Numbers.{bound_places, number_of_place, number_of_binding, number_among}
use Rattle.erl_scope_numbers.specs.Table.{Entry, entry_at, entry_for, number_listed, IsTableOf}
use Rattle.erl_scope_numbers.proofs.Keys.{entry_at-push}

pub bound_places-push : (rs : List Resolved) (r : Resolved) → bound_places (rs ++ r ∷ []) ≡ bound_places rs ++ cond r.binds (r.place ∷ []) []
bound_places-push [] r = refl
bound_places-push (q ∷ rs) r = by q.binds (bound_places-push rs r)
  where
    by : (b : Bool) → bound_places (rs ++ r ∷ []) ≡ bound_places rs ++ cond r.binds (r.place ∷ []) [] → cond b (q.place ∷ bound_places (rs ++ r ∷ [])) (bound_places (rs ++ r ∷ [])) ≡ cond b (q.place ∷ bound_places rs) (bound_places rs) ++ cond r.binds (r.place ∷ []) []
    by true h = ap (λ ps. q.place ∷ ps) h
    by false h = h

-- one more variable of a list, which is a binding or not
module _ (rs : List Resolved) (i : ℕ) (d : Resolved) (ps qs : List Place) (within : i < length rs) (before : ps ≡ bound_places (take i rs)) where
  bound_more : (qs ≡ ps ++ cond (get_or rs i d).binds ((get_or rs i d).place ∷ []) []) → qs ≡ bound_places (take (i + 1) rs)
  bound_more is = is ∙ ap (λ xs. xs ++ cond (get_or rs i d).binds ((get_or rs i d).place ∷ []) []) before ∙ sym (bound_places-push (take i rs) (get_or rs i d)) ∙ sym (ap bound_places (take_more rs i d within))

  pub bound_more-binding : (get_or rs i d).binds ≡ true → qs ≡ ps ++ (get_or rs i d).place ∷ [] → qs ≡ bound_places (take (i + 1) rs)
  bound_more-binding binds is = bound_more (is ∙ ap (λ b. ps ++ cond b ((get_or rs i d).place ∷ []) []) (sym binds))

  pub bound_more-other : (get_or rs i d).binds ≡ false → qs ≡ ps → qs ≡ bound_places (take (i + 1) rs)
  bound_more-other other is = bound_more (is ∙ sym (append-nil ps) ∙ ap (λ b. ps ++ cond b ((get_or rs i d).place ∷ []) []) (sym other))

-- a binding at the end has the length of the list before it for its number, where its place has none before
pub number_of_place-push : (at : Place) (ps : List Place) (p : Place) → number_of_place at (ps ++ p ∷ []) ≡ option_or (number_of_place at ps) (cond (same_place p at) (Some (length ps)) None)
number_of_place-push at [] p = refl
number_of_place-push at (q ∷ ps) p = by (same_place q at) (same_place p at) (number_of_place at ps) _ (number_of_place-push at ps p)
  where
    by : (b c : Bool) (o m : Option ℕ) → m ≡ option_or o (cond c (Some (length ps)) None) → cond b (Some zero) (next_number m) ≡ option_or (cond b (Some zero) (next_number o)) (cond c (Some (suc (length ps))) None)
    by true c o m e = refl
    by false true None m e = ap next_number e
    by false true (Some n) m e = ap next_number e
    by false false None m e = ap next_number e
    by false false (Some n) m e = ap next_number e

-- a table of the numbers of places, with one more
abbrev pub AreNumbersOf : List Place → List Entry → Type 0
AreNumbersOf ps es = (at : Place) → entry_at at es ≡ option_map (λ n. Some n) (number_of_place at ps)

pub AreNumbersOf-push : (ps : List Place) (es fs : List Entry) (p : Place) (n : ℕ) → AreNumbersOf ps es → n ≡ length ps → ((at : Place) → entry_at at fs ≡ entry_at at (es ++ (p, Some n) ∷ [])) → AreNumbersOf (ps ++ p ∷ []) fs
AreNumbersOf-push ps es fs p n before is added at =
    added at ∙ entry_at-push at es (p, Some n) ∙ ap (λ o. option_or o (cond (same_place p at) (Some (Some n)) None)) (before at) ∙ by (same_place p at) (number_of_place at ps) ∙ ap (option_map (λ k. Some k)) (sym (number_of_place-push at ps p))
  where
    by : (b : Bool) (o : Option ℕ) → option_or (option_map (λ k. Some k) o) (cond b (Some (Some n)) None) ≡ option_map (λ k. Some k) (option_or o (cond b (Some (length ps)) None))
    by true None = ap (λ k. Some (Some k)) is
    by true (Some k) = refl
    by false None = refl
    by false (Some k) = refl

pub AreNumbersOf-more : (ps : List Place) (i : ℕ) (d : Place) (es fs : List Entry) (n : ℕ) → i < length ps → AreNumbersOf (take i ps) es → n ≡ i → ((at : Place) → entry_at at fs ≡ entry_at at (es ++ (get_or ps i d, Some n) ∷ [])) → AreNumbersOf (take (i + 1) ps) fs
AreNumbersOf-more ps i d es fs n within before is added =
    subst (λ qs. AreNumbersOf qs fs) (sym (take_more ps i d within)) (AreNumbersOf-push (take i ps) es fs (get_or ps i d) n before (is ∙ sym (length-take-le i ps (omega arith))) added)

-- such a table lists the numbers
pub listed-AreNumbersOf : (ps : List Place) (es : List Entry) → AreNumbersOf ps es → (at : Place) → number_listed at es ≡ number_of_place at ps
listed-AreNumbersOf ps es are at = ap option_flatten (are at) ∙ by (number_of_place at ps)
  where
    by : (o : Option ℕ) → option_flatten (option_map (λ k. Some k) o) ≡ o
    by None = refl
    by (Some k) = refl

-- tables with the same entries, each with one more
pub same-push : (es fs gs : List Entry) (e : Entry) → ((at : Place) → entry_at at es ≡ entry_at at gs) → ((at : Place) → entry_at at fs ≡ entry_at at (es ++ e ∷ [])) → (at : Place) → entry_at at fs ≡ entry_at at (gs ++ e ∷ [])
same-push es fs gs e before added at =
    added at ∙ entry_at-push at es e ∙ ap (λ o. option_or o (cond (same_place e.0 at) (Some e.1) None)) (before at) ∙ sym (entry_at-push at gs e)

-- and what is listed for one more variable of a list
pub same-more : (by_binding : List Entry) (rs : List Resolved) (i : ℕ) (d : Resolved) (es fs : List Entry) (n : Option ℕ) → i < length rs → ((at : Place) → entry_at at es ≡ entry_at at (map (entry_for by_binding) (take i rs))) → n ≡ (entry_for by_binding (get_or rs i d)).1 → ((at : Place) → entry_at at fs ≡ entry_at at (es ++ ((get_or rs i d).place, n) ∷ [])) → (at : Place) → entry_at at fs ≡ entry_at at (map (entry_for by_binding) (take (i + 1) rs))
same-more by_binding rs i d es fs n within before is added at =
    same-push es fs (map (entry_for by_binding) (take i rs)) ((get_or rs i d).place, n) before added at ∙ ap (λ k. entry_at at (map (entry_for by_binding) (take i rs) ++ ((get_or rs i d).place, k) ∷ [])) is ∙ sym (ap (entry_at at) (map_more (entry_for by_binding) rs i d within))

-- the number of a binding by a table of the places' numbers
pub number_by_table : (ps : List Place) (es : List Entry) → ((at : Place) → number_listed at es ≡ number_of_place at ps) → (binding : Option Place) → option_and_then (λ p. number_listed p es) binding ≡ number_of_binding binding ps
number_by_table ps es are None = refl
number_by_table ps es are (Some p) = are p

-- so what is listed for each variable are the numbers of their bindings
pub listed-entries_for : (ps : List Place) (es : List Entry) → ((at : Place) → number_listed at es ≡ number_of_place at ps) → (rs : List Resolved) (at : Place) → number_listed at (map (entry_for es) rs) ≡ number_among at rs ps
listed-entries_for ps es are [] at = refl
listed-entries_for ps es are (r ∷ rs) at = by (same_place r.place at) (listed-entries_for ps es are rs at)
  where
    by : (b : Bool) → number_listed at (map (entry_for es) rs) ≡ number_among at rs ps → option_flatten (cond b (Some (entry_for es r).1) (entry_at at (map (entry_for es) rs))) ≡ cond b (number_of_binding r.binding ps) (number_among at rs ps)
    by true h = number_by_table ps es are r.binding
    by false h = h

-- the table of the variables' numbers, with the places of the bindings, is the table of the variables
pub IsTableOf-made : (rs : List Resolved) (ps : List Place) (by_binding numbers : List Entry) → ps ≡ bound_places rs → ((at : Place) → number_listed at by_binding ≡ number_of_place at ps) → ((at : Place) → entry_at at numbers ≡ entry_at at (map (entry_for by_binding) rs)) → IsTableOf rs (record { numbers = numbers; bindings = ps })
IsTableOf-made rs ps by_binding numbers bound are all =
    (λ at. ap option_flatten (all at) ∙ listed-entries_for ps by_binding are rs at ∙ ap (number_among at rs) bound, λ n. ap (λ qs. slice_get qs n) bound)
