-- What is kept of a name says what its look-up is to give.
use Rattle.std.proofs.Common.{◌≡◌, ℕ, zero, suc, ◌-◌, ◌<◌, Bool, true, false, ◌||◌, cond, nat_eq, nat_le, nat_lt, List, [], ◌∷◌, length, take, map, Some, refl, sym, ap, ◌∙◌, arith}
use Rattle.std.specs.Option.{option_map}
use Rattle.std.proofs.lemmas.Bool.{eqb-true}
use Rattle.std.proofs.lemmas.Bool.Decides.{nat_tests}
use Rattle.std.proofs.lemmas.List.{length-map}
use Rattle.erl_tree.specs.Lists.{Every}
use Rattle.type_terms.specs.Keys.{Name, same_name}
use Rattle.type_terms.proofs.KeyLaws.{name-is, name-refl}
use Rattle.erl_scope_rules.specs.Bindings.{innermost}
use Rattle.erl_scope_rules.specs.Occurrences.{Mark, is_named_among}
use Rattle.erl_scope_rules.specs.ScopeFaults.{stands_among}
use Rattle.erl_scope_stack.specs.declared.entries.Seen.{Seen}
use Rattle.erl_scope_stack.specs.State.{above}
use Rattle.erl_scope_stack.specs.Named.{name_at, HaveOneNumber}
use Rattle.erl_scope_stack.specs.Stored.{mark_of, place_by_role}
use Rattle.erl_scope_stack.specs.Indexed.{top_of, place_in, count_in, top_reaches}
use Rattle.erl_scope_stack.proofs.NameLaws.{place_of, place-innermost}

take-nil : (n : ℕ) → take {A = Mark} n [] ≡ []
take-nil zero = refl
take-nil (suc n) = refl

module _ (ns : List Name) (one : HaveOneNumber ns) where
  pub same_number : (i j : ℕ) → i < length ns → j < length ns → same_name (name_at ns i) (name_at ns j) ≡ nat_eq i j
  same_number i j h k = by (nat_eq i j) refl (same_name (name_at ns i) (name_at ns j)) refl
    where
      by : (a : Bool) → nat_eq i j ≡ a → (b : Bool) → same_name (name_at ns i) (name_at ns j) ≡ b → same_name (name_at ns i) (name_at ns j) ≡ nat_eq i j
      by true p b q = ap (λ m. same_name (name_at ns i) (name_at ns m)) (sym (eqb-true i j p)) ∙ name-refl (name_at ns i) ∙ sym p
      by false p true q = let e : i ≡ j = one i j h k (name-is (name_at ns i) (name_at ns j) q) in absurd (grind (arith, nat_tests))
      by false p false q = q ∙ sym p

  nat_eq-turned : (m n : ℕ) → nat_eq m n ≡ nat_eq n m
  nat_eq-turned m n = by (nat_eq m n) refl (nat_eq n m) refl
    where
      by : (a : Bool) → nat_eq m n ≡ a → (b : Bool) → nat_eq n m ≡ b → nat_eq m n ≡ nat_eq n m
      by true p true q = p ∙ sym q
      by false p false q = p ∙ sym q
      by true p false q = absurd (grind (arith, nat_tests))
      by false p true q = absurd (grind (arith, nat_tests))

  turned : (i j : ℕ) → i < length ns → j < length ns → same_name (name_at ns j) (name_at ns i) ≡ nat_eq i j
  turned i j h k = same_number j i k h ∙ nat_eq-turned j i

  abbrev Named : Seen → Type 0
  Named e = e.name < length ns

  pub place-look_up : (i : ℕ) (es : List Seen) → i < length ns → Every Named es → place_in i es ≡ option_map place_of (innermost (name_at ns i) (map (mark_of ns) es))
  place-look_up i [] h all = refl
  place-look_up i (e ∷ es) h all =
      let rest = place-look_up i es h all.1 in
      let m = mark_of ns e in
      ap (λ o. cond (nat_eq i e.name) (place_by_role e.role e.place o) o) rest
      ∙ ap (λ b. cond b (place_by_role e.role e.place (option_map place_of (innermost (name_at ns i) (map (mark_of ns) es)))) (option_map place_of (innermost (name_at ns i) (map (mark_of ns) es)))) (sym (turned i e.name h all.0))
      ∙ sym (place-innermost (name_at ns i) m (map (mark_of ns) es))

  pub count-look_up : (i : ℕ) (ms : List ℕ) → i < length ns → Every (λ (m : ℕ). m < length ns) ms → nat_lt 0 (count_in i ms) ≡ stands_among (name_at ns i) (map (name_at ns) ms)
  count-look_up i [] h all = refl
  count-look_up i (m ∷ ms) h all = by (nat_eq i m) (same_number i m h all.0) (count-look_up i ms h all.1)
    where
      by : (b : Bool) → same_name (name_at ns i) (name_at ns m) ≡ b → nat_lt 0 (count_in i ms) ≡ stands_among (name_at ns i) (map (name_at ns) ms) → nat_lt 0 (cond b (suc (count_in i ms)) (count_in i ms)) ≡ (same_name (name_at ns i) (name_at ns m) || stands_among (name_at ns i) (map (name_at ns) ms))
      by true p rest = let some : nat_lt 0 (suc (count_in i ms)) ≡ true = grind (arith, nat_tests) in some ∙ sym (ap (λ b. b || stands_among (name_at ns i) (map (name_at ns) ms)) p)
      by false p rest = rest ∙ sym (ap (λ b. b || stands_among (name_at ns i) (map (name_at ns) ms)) p)

  pub above-look_up : (count i : ℕ) (es : List Seen) → i < length ns → Every Named es → top_reaches count (top_of i es) ≡ is_named_among (name_at ns i) (above count (map (mark_of ns) es))
  above-look_up count i [] h all = sym (ap (is_named_among (name_at ns i)) (take-nil (0 - count)))
  above-look_up count i (e ∷ es) h all = by (nat_le count (length es)) refl (nat_eq i e.name) (turned i e.name h all.0) (above-look_up count i es h all.1)
    where
      rest : List Mark
      rest = map (mark_of ns) es

      long : length (map (mark_of ns) es) ≡ length es
      long = length-map es (mark_of ns)

      by : (a : Bool) → nat_le count (length es) ≡ a → (b : Bool) → same_name (name_at ns e.name) (name_at ns i) ≡ b → top_reaches count (top_of i es) ≡ is_named_among (name_at ns i) (above count (map (mark_of ns) es)) →
          top_reaches count (cond b (Some (length es)) (top_of i es)) ≡ is_named_among (name_at ns i) (take (suc (length (map (mark_of ns) es)) - count) (mark_of ns e ∷ map (mark_of ns) es))
      by true p b q later =
          let size : suc (length (map (mark_of ns) es)) - count ≡ suc (length (map (mark_of ns) es) - count) = grind (arith, nat_tests, long) in
          within b q later ∙ sym (ap (λ (n : ℕ). is_named_among (name_at ns i) (take n (mark_of ns e ∷ map (mark_of ns) es))) size)
        where
          within : (b : Bool) → same_name (name_at ns e.name) (name_at ns i) ≡ b → top_reaches count (top_of i es) ≡ is_named_among (name_at ns i) (above count (map (mark_of ns) es)) → top_reaches count (cond b (Some (length es)) (top_of i es)) ≡ (same_name (name_at ns e.name) (name_at ns i) || is_named_among (name_at ns i) (above count (map (mark_of ns) es)))
          within true q later = p ∙ sym (ap (λ b. b || is_named_among (name_at ns i) (above count (map (mark_of ns) es))) q)
          within false q later = later ∙ sym (ap (λ b. b || is_named_among (name_at ns i) (above count (map (mark_of ns) es))) q)
      by false p b q later =
          let size : suc (length (map (mark_of ns) es)) - count ≡ 0 = grind (arith, nat_tests, long) in
          let size' : length (map (mark_of ns) es) - count ≡ 0 = omega arith in
          outside b (later ∙ ap (λ (n : ℕ). is_named_among (name_at ns i) (take n (map (mark_of ns) es))) size') ∙ sym (ap (λ (n : ℕ). is_named_among (name_at ns i) (take n (mark_of ns e ∷ map (mark_of ns) es))) size)
        where
          outside : (b : Bool) → top_reaches count (top_of i es) ≡ false → top_reaches count (cond b (Some (length es)) (top_of i es)) ≡ false
          outside true none = p
          outside false none = none
