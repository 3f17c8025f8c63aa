-- The text of an integer at the front: what is found is one, and no other is longer.
use Rattle.std.proofs.Common.{◌≡◌, ℕ, suc, ◌≤◌, ◌-◌, ◌*◌, ◌+◌, Bool, true, false, List, [], ◌∷◌, ◌++◌, length, take, Option, Some, None, refl, ap, sym, ◌∙◌, arith, inl, inr}
use Rattle.std.specs.Prelude.{◌&&◌, ◌||◌, nat_le, if◌then◌else◌}
use Rattle.std.proofs.Math.Dec.{eqb}
use Rattle.std.proofs.lemmas.Bool.{eqb-true, or_left, or_right}
use Rattle.std.proofs.lemmas.Bool.Decides.{nat_tests}
use Rattle.erl_tree.specs.Lexis.{is_digit, is_digit_of, is_grouped, goes_on_grouped, is_based}
use Rattle.erl_tree.specs.Profile.{further}
use Rattle.erl_tree.proofs.TokenTexts.{chosen, and_true, or_true}
use Rattle.erl_lexer.specs.Scan.{first_is, grouped_run, based_run, or_else, integer_length}

pub not_95 : (digit : ℕ → Bool) (d : ℕ) → digit 95 ≡ false → digit d ≡ true → eqb d 95 ≡ false
not_95 digit d n h = by (eqb d 95) refl
  where
    by : (b : Bool) → eqb d 95 ≡ b → b ≡ false
    by true e = absurd (let z : digit 95 ≡ true = rw (eqb-true d 95 e) at h in let y : false ≡ true = sym n ∙ z in cc)
    by false e = refl

pub of_95 : (base : ℕ) → is_digit_of base 95 ≡ false
of_95 base = grind (arith, nat_tests)

pub further_is : (k n : ℕ) (o : Option ℕ) → further k o ≡ Some n → (m : ℕ) × (o ≡ Some m) × (n ≡ k + m)
further_is k n None e = absurd cc
further_is k n (Some m) e = (m, refl, cc)

pub some_is : (m n : ℕ) (o : Option ℕ) → o ≡ Some m → o ≡ Some n → m ≡ n
some_is m n o e g = let z : Some m ≡ Some n = sym e ∙ g in cc

-- ---- digits with underscores

grown : (b : Bool) (n m : ℕ) → b ≡ true → m ≤ n → suc m ≤ (if b then suc n else 0)
grown true n m e h = omega arith
grown false n m e h = absurd cc

pub grouped_goes_on : (digit : ℕ → Bool) (cs more : List ℕ) → digit 95 ≡ false → is_grouped digit cs ≡ true → (first_is digit (cs ++ more) ≡ true) × (goes_on_grouped digit cs ≡ true)
grouped_goes_on digit [] more n h = absurd cc
grouped_goes_on digit (d ∷ ds) more n h = let a = and_true (digit d) (goes_on_grouped digit ds) h in (a.0, rw (not_95 digit d n a.0, a.0) a.1)

pub grouped_covers : (digit : ℕ → Bool) (word more : List ℕ) → digit 95 ≡ false → goes_on_grouped digit word ≡ true → length word ≤ grouped_run digit (word ++ more)
grouped_covers digit [] more n h = omega arith
grouped_covers digit (c ∷ cs) more n h =
    elim (chosen (eqb c 95) (is_grouped digit cs) (digit c && goes_on_grouped digit cs) true h) [
      | inl w ↦
          let g = grouped_goes_on digit cs more n w.1 in
          grown (digit c || (eqb c 95 && first_is digit (cs ++ more))) _ _ (or_right (digit c) _ (rw w.0 g.0)) (grouped_covers digit cs more n g.1)
      | inr w ↦
          let a = and_true (digit c) (goes_on_grouped digit cs) w.1 in
          grown (digit c || (eqb c 95 && first_is digit (cs ++ more))) _ _ (or_left (digit c) _ a.0) (grouped_covers digit cs more n a.1)
    ]

pub head_grouped : (digit : ℕ → Bool) (cs : List ℕ) → digit 95 ≡ false → first_is digit cs ≡ true → goes_on_grouped digit (take (grouped_run digit cs) cs) ≡ true → is_grouped digit (take (grouped_run digit cs) cs) ≡ true
head_grouped digit [] n h g = absurd cc
head_grouped digit (d ∷ ds) n h g =
    let k : goes_on_grouped digit (take (grouped_run digit ds) ds) ≡ true = rw (h, not_95 digit d n h, h) at g in
    rw (h, h) k

grouped_by : (digit : ℕ → Bool) (c : ℕ) (cs : List ℕ) (b : Bool) → digit 95 ≡ false → (digit c || (eqb c 95 && first_is digit cs)) ≡ b → goes_on_grouped digit (take (grouped_run digit cs) cs) ≡ true
    → goes_on_grouped digit (take (if b then suc (grouped_run digit cs) else 0) (c ∷ cs)) ≡ true
grouped_by digit c cs false n e h = refl
grouped_by digit c cs true n e h =
    elim (or_true (digit c) (eqb c 95 && first_is digit cs) e) [
      | inl w ↦ rw (not_95 digit c n w, w) h
      | inr w ↦ let a = and_true (eqb c 95) (first_is digit cs) w in rw a.0 (head_grouped digit cs n a.1 h)
    ]

pub grouped_is : (digit : ℕ → Bool) (cs : List ℕ) → digit 95 ≡ false → goes_on_grouped digit (take (grouped_run digit cs) cs) ≡ true
grouped_is digit [] n = refl
grouped_is digit (c ∷ cs) n = grouped_by digit c cs (digit c || (eqb c 95 && first_is digit cs)) n refl (grouped_is digit cs n)

within_by : (b : Bool) (n m : ℕ) → n ≤ m → (if b then suc n else 0) ≤ suc m
within_by true n m h = omega arith
within_by false n m h = omega arith

pub grouped_within : (digit : ℕ → Bool) (cs : List ℕ) → grouped_run digit cs ≤ length cs
grouped_within digit [] = omega arith
grouped_within digit (c ∷ cs) = within_by (digit c || (eqb c 95 && first_is digit cs)) _ _ (grouped_within digit cs)

-- ---- digits with a base

based_step : (base c m : ℕ) (cs : List ℕ) → eqb c 35 ≡ false → is_digit c ≡ true → based_run (base * 10 + (c - 48)) cs ≡ Some m → based_run base (c ∷ cs) ≡ Some (1 + m)
based_step base c m cs e h r = rw (e, h) (ap (further 1) r)

pub based_covers : (base : ℕ) (word more : List ℕ) → is_based base word ≡ true → (n : ℕ) × (based_run base (word ++ more) ≡ Some n) × (length word ≤ n)
based_covers base [] more h = absurd cc
based_covers base (c ∷ cs) more h =
    elim (chosen (eqb c 35) ((nat_le 2 base && nat_le base 36) && is_grouped (is_digit_of base) cs) (is_digit c && is_based (base * 10 + (c - 48)) cs) true h) [
      | inl w ↦
          let a = and_true (nat_le 2 base && nat_le base 36) (is_grouped (is_digit_of base) cs) w.1 in
          let b = and_true (nat_le 2 base) (nat_le base 36) a.0 in
          let g = grouped_goes_on (is_digit_of base) cs more (of_95 base) a.1 in
          (suc (grouped_run (is_digit_of base) (cs ++ more)), rw (w.0, b.0, b.1, g.0) refl, omega (arith, grouped_covers (is_digit_of base) cs more (of_95 base) g.1))
      | inr w ↦
          let a = and_true (is_digit c) (is_based (base * 10 + (c - 48)) cs) w.1 in
          let r = based_covers (base * 10 + (c - 48)) cs more a.1 in
          (1 + r.0, based_step base c r.0 (cs ++ more) w.0 a.0 r.1, omega (arith, r.2))
    ]

some_suc : (k n : ℕ) → Some k ≡ Some n → n ≡ k
some_suc k n e = cc

pub based_is : (base n : ℕ) (text : List ℕ) → based_run base text ≡ Some n → (is_based base (take n text) ≡ true) × (n ≤ length text)
based_is base n [] h = absurd cc
based_is base n (c ∷ cs) h =
    elim (chosen (eqb c 35) (if nat_le 2 base && (nat_le base 36 && first_is (is_digit_of base) cs) then Some (suc (grouped_run (is_digit_of base) cs)) else None) (if is_digit c then further 1 (based_run (base * 10 + (c - 48)) cs) else None) (Some n) h) [
      | inl w ↦ elim (chosen (nat_le 2 base && (nat_le base 36 && first_is (is_digit_of base) cs)) (Some (suc (grouped_run (is_digit_of base) cs))) None (Some n) w.1) [
        | inl v ↦
            let e = some_suc _ n v.1 in
            let a = and_true (nat_le 2 base) _ v.0 in
            let b = and_true (nat_le base 36) _ a.1 in
            rw e (rw (w.0, a.0, b.0) (head_grouped (is_digit_of base) cs (of_95 base) b.1 (grouped_is (is_digit_of base) cs (of_95 base))), omega (arith, grouped_within (is_digit_of base) cs))
        | inr v ↦ absurd (let z : None ≡ Some n = v.1 in cc)
      ]
      | inr w ↦ elim (chosen (is_digit c) (further 1 (based_run (base * 10 + (c - 48)) cs)) None (Some n) w.1) [
        | inl v ↦
            let f = further_is 1 n (based_run (base * 10 + (c - 48)) cs) v.1 in
            let r = based_is (base * 10 + (c - 48)) f.0 cs f.1 in
            let e : n ≡ suc f.0 = omega (arith, f.2) in
            rw e (rw (w.0, v.0) r.0, omega (arith, r.1))
        | inr v ↦ absurd (let z : None ≡ Some n = v.1 in cc)
      ]
    ]

hash_stops : (cs : List ℕ) → grouped_run is_digit (35 ∷ cs) ≡ 0
hash_stops cs = refl

pub based_longer : (base n : ℕ) (text : List ℕ) → based_run base text ≡ Some n → grouped_run is_digit text ≤ n
based_longer base n [] h = absurd cc
based_longer base n (c ∷ cs) h =
    elim (chosen (eqb c 35) (if nat_le 2 base && (nat_le base 36 && first_is (is_digit_of base) cs) then Some (suc (grouped_run (is_digit_of base) cs)) else None) (if is_digit c then further 1 (based_run (base * 10 + (c - 48)) cs) else None) (Some n) h) [
      | inl w ↦ let e : grouped_run is_digit (c ∷ cs) ≡ 0 = ap (λ (x : ℕ). grouped_run is_digit (x ∷ cs)) (eqb-true c 35 w.0) in omega (arith, e)
      | inr w ↦ elim (chosen (is_digit c) (further 1 (based_run (base * 10 + (c - 48)) cs)) None (Some n) w.1) [
        | inl v ↦
            let f = further_is 1 n (based_run (base * 10 + (c - 48)) cs) v.1 in
            rw v.0 (omega (arith, based_longer (base * 10 + (c - 48)) f.0 cs f.1, f.2))
        | inr v ↦ absurd (let z : None ≡ Some n = v.1 in cc)
      ]
    ]

-- ---- both

covers_by : (c : ℕ) (cs more : List ℕ) (o : Option ℕ) → based_run 0 (c ∷ (cs ++ more)) ≡ o → (is_grouped is_digit (c ∷ cs) || is_based 0 (c ∷ cs)) ≡ true → suc (length cs) ≤ or_else o (grouped_run is_digit (c ∷ (cs ++ more)))
covers_by c cs more None e h =
    elim (or_true (is_grouped is_digit (c ∷ cs)) (is_based 0 (c ∷ cs)) h) [
      | inl w ↦ grouped_covers is_digit (c ∷ cs) more refl (grouped_goes_on is_digit (c ∷ cs) more refl w).1
      | inr w ↦ let r = based_covers 0 (c ∷ cs) more w in absurd (let z : None ≡ Some r.0 = sym e ∙ r.1 in cc)
    ]
covers_by c cs more (Some n) e h =
    elim (or_true (is_grouped is_digit (c ∷ cs)) (is_based 0 (c ∷ cs)) h) [
      | inl w ↦ omega (arith, grouped_covers is_digit (c ∷ cs) more refl (grouped_goes_on is_digit (c ∷ cs) more refl w).1, based_longer 0 n (c ∷ (cs ++ more)) e)
      | inr w ↦ let r = based_covers 0 (c ∷ cs) more w in omega (arith, r.2, some_is r.0 n _ r.1 e)
    ]

pub integer_covers : (c : ℕ) (cs more : List ℕ) → (is_grouped is_digit (c ∷ cs) || is_based 0 (c ∷ cs)) ≡ true → suc (length cs) ≤ integer_length (c ∷ (cs ++ more))
integer_covers c cs more h = covers_by c cs more (based_run 0 (c ∷ (cs ++ more))) refl h

-- so many characters at the front are an integer's text
pub record IsInteger (n : ℕ) (text : List ℕ) : Type 0 where
  pub is : (is_grouped is_digit (take n text) || is_based 0 (take n text)) ≡ true
  pub within : n ≤ length text

integer_by : (text : List ℕ) (o : Option ℕ) → based_run 0 text ≡ o → first_is is_digit text ≡ true → IsInteger (or_else o (grouped_run is_digit text)) text
integer_by text None e h = record { is = or_left _ _ (head_grouped is_digit text refl h (grouped_is is_digit text refl)); within = grouped_within is_digit text }
integer_by text (Some n) e h = let r = based_is 0 n text e in record { is = or_right _ _ r.0; within = r.1 }

pub integer_is : (text : List ℕ) → first_is is_digit text ≡ true → IsInteger (integer_length text) text
integer_is text h = integer_by text (based_run 0 text) refl h

pub integer_some : (c : ℕ) (cs : List ℕ) → is_digit c ≡ true → 1 ≤ integer_length (c ∷ cs)
integer_some c cs h = omega (arith, integer_covers c [] cs (rw h refl))
