-- A text that has a token is the text of a token, and begins no gap.
use Rattle.std.proofs.Common.{◌≡◌, ◌≢◌, ℕ, zero, suc, ◌+◌, ◌-◌, ◌≤◌, Bool, true, false, cond, List, [], ◌∷◌, ◌++◌, Some, None, refl, arith, inl, inr}
use Rattle.std.specs.Prelude.{◌⊎◌, ◌&&◌, ◌||◌, ◌==◌, pos, encode_utf8_all}
use Rattle.std.proofs.Math.Dec.{eqb}
use Rattle.std.proofs.lemmas.Bool.{eqb-true}
use Rattle.std.proofs.lemmas.Bool.Decides.{nat_tests}
use Rattle.erl_tree.specs.declared.token.Token.{Token}
use Rattle.erl_tree.specs.declared.token.Token.TheVariants.{Atom, Var, Int, Char, Str}
use Rattle.erl_tree.specs.Lexis.{every, is_lower, is_upper, is_digit, is_name, is_white, is_grouped, goes_on_grouped, is_based, is_quoted, is_character, is_mark, integer_value, unquoted, character_value, name_token, mark_token, is_token_text, token_of, when}

pub chosen : {A : Type 0} (b : Bool) (x y z : A) → cond b x y ≡ z → ((b ≡ true) × (x ≡ z)) ⊎ ((b ≡ false) × (y ≡ z))
chosen true x y z e = inl (refl, e)
chosen false x y z e = inr (refl, e)

pub when_holds : (b : Bool) (t u : Token) → when b t ≡ Some u → (b ≡ true) × (t ≡ u)
when_holds true t u e = (refl, cc)
when_holds false t u e = absurd cc

pub and_true : (a b : Bool) → (a && b) ≡ true → (a ≡ true) × (b ≡ true)
and_true true b e = (refl, e)
and_true false b e = absurd cc

pub or_true : (a b : Bool) → (a || b) ≡ true → (a ≡ true) ⊎ (b ≡ true)
or_true true b e = inl refl
or_true false b e = inr e

-- no digit is an underscore
pub digit_alone : (c : ℕ) → is_digit c ≡ true → eqb c 95 ≡ false
digit_alone c h = grind (arith, nat_tests)

pub digits_grouped : (cs : List ℕ) → every is_digit cs ≡ true → goes_on_grouped is_digit cs ≡ true
digits_grouped [] h = refl
digits_grouped (c ∷ cs) h = let w = and_true (is_digit c) (every is_digit cs) h in rw (digit_alone c w.0, w.0) (digits_grouped cs w.1)

-- no mark begins with a quote or a dollar sign
pub mark_plain : (c : ℕ) (cs : List ℕ) → is_mark (c ∷ cs) ≡ true → (eqb c 39 ≡ false) × (eqb c 34 ≡ false) × (eqb c 36 ≡ false)
mark_plain c cs h = (by_39 (eqb c 39) refl, by_34 (eqb c 34) refl, by_36 (eqb c 36) refl)
  where
    by_39 : (b : Bool) → eqb c 39 ≡ b → b ≡ false
    by_39 true e = let k : is_mark (39 ∷ cs) ≡ true = rw (eqb-true c 39 e) at h in absurd cc
    by_39 false e = refl

    by_34 : (b : Bool) → eqb c 34 ≡ b → b ≡ false
    by_34 true e = let k : is_mark (34 ∷ cs) ≡ true = rw (eqb-true c 34 e) at h in absurd cc
    by_34 false e = refl

    by_36 : (b : Bool) → eqb c 36 ≡ b → b ≡ false
    by_36 true e = let k : is_mark (36 ∷ cs) ≡ true = rw (eqb-true c 36 e) at h in absurd cc
    by_36 false e = refl

taken : (b x y : Bool) → b ≡ true → x ≡ true → cond b x y ≡ true
taken true x y e h = h
taken false x y e h = absurd cc

pub token_is_text : (text follow : List ℕ) (t : Token) → token_of text follow ≡ Some t → is_token_text text ≡ true
unfolding token_of is_token_text
token_is_text [] follow t h = absurd cc
token_is_text (c ∷ cs) follow t h =
    elim (chosen (is_lower c) (when (every is_name cs) (name_token (c ∷ cs))) _ _ h) [
      | inl w ↦ rw w.0 (when_holds (every is_name cs) (name_token (c ∷ cs)) t w.1).0
      | inr w ↦ elim (chosen (is_upper c) (when (every is_name cs) (Var (c ∷ cs))) _ _ w.1) [
        | inl v ↦ rw (w.0, v.0) (when_holds (every is_name cs) (Var (c ∷ cs)) t v.1).0
        | inr v ↦ elim (chosen (is_digit c) (when (is_grouped is_digit (c ∷ cs) || is_based 0 (c ∷ cs)) (Int (pos (integer_value 0 (c ∷ cs))))) _ _ v.1) [
          | inl u ↦ rw (w.0, v.0) (taken (is_digit c) (is_grouped is_digit (c ∷ cs) || is_based 0 (c ∷ cs)) _ u.0 (when_holds (is_grouped is_digit (c ∷ cs) || is_based 0 (c ∷ cs)) (Int (pos (integer_value 0 (c ∷ cs)))) t u.1).0)
          | inr u ↦ elim (chosen (c == 39) (when (is_quoted 39 cs) (Atom (encode_utf8_all (unquoted cs)))) _ _ u.1) [
            | inl z ↦ rw (w.0, v.0, u.0, z.0) (when_holds (is_quoted 39 cs) (Atom (encode_utf8_all (unquoted cs))) t z.1).0
            | inr z ↦ elim (chosen (c == 34) (when (is_quoted 34 cs) (Str (encode_utf8_all (unquoted cs)))) _ _ z.1) [
              | inl y ↦ rw (w.0, v.0, u.0, z.0, y.0) (when_holds (is_quoted 34 cs) (Str (encode_utf8_all (unquoted cs))) t y.1).0
              | inr y ↦ elim (chosen (c == 36) (when (is_character cs) (Char (character_value cs))) _ _ y.1) [
                | inl x ↦ rw (w.0, v.0, u.0, z.0, y.0, x.0) (when_holds (is_character cs) (Char (character_value cs)) t x.1).0
                | inr x ↦ rw (w.0, v.0, u.0, z.0, y.0, x.0) (when_holds (is_mark (c ∷ cs)) (mark_token (c ∷ cs) follow) t x.1).0
              ]
            ]
          ]
        ]
      ]
    ]

-- ---- what white space and a comment begin with begins no token

at_9 : (cs f : List ℕ) → token_of (9 ∷ cs) f ≡ None
unfolding token_of
at_9 cs f = refl

at_10 : (cs f : List ℕ) → token_of (10 ∷ cs) f ≡ None
unfolding token_of
at_10 cs f = refl

at_11 : (cs f : List ℕ) → token_of (11 ∷ cs) f ≡ None
unfolding token_of
at_11 cs f = refl

at_12 : (cs f : List ℕ) → token_of (12 ∷ cs) f ≡ None
unfolding token_of
at_12 cs f = refl

at_13 : (cs f : List ℕ) → token_of (13 ∷ cs) f ≡ None
unfolding token_of
at_13 cs f = refl

at_32 : (cs f : List ℕ) → token_of (32 ∷ cs) f ≡ None
unfolding token_of
at_32 cs f = refl

at_37 : (cs f : List ℕ) → token_of (37 ∷ cs) f ≡ None
unfolding token_of
at_37 cs f = refl

blank_at : (k c : ℕ) (cs f : List ℕ) → c ≡ k + 9 → k ≤ 4 → token_of (c ∷ cs) f ≡ None
blank_at zero c cs f e h = let k : c ≡ 9 = omega arith in rw k (at_9 cs f)
blank_at (suc zero) c cs f e h = let k : c ≡ 10 = omega arith in rw k (at_10 cs f)
blank_at (suc (suc zero)) c cs f e h = let k : c ≡ 11 = omega arith in rw k (at_11 cs f)
blank_at (suc (suc (suc zero))) c cs f e h = let k : c ≡ 12 = omega arith in rw k (at_12 cs f)
blank_at (suc (suc (suc (suc zero)))) c cs f e h = let k : c ≡ 13 = omega arith in rw k (at_13 cs f)
blank_at (suc (suc (suc (suc (suc k))))) c cs f e h = absurd (omega arith)

white_is : (c : ℕ) → is_white c ≡ true → (c ≡ 32) ⊎ ((9 ≤ c) × (c ≤ 13))
white_is c h = grind (arith, nat_tests)

white_at : (c : ℕ) (cs f : List ℕ) → is_white c ≡ true → token_of (c ∷ cs) f ≡ None
white_at c cs f h = elim (white_is c h) [ inl e ↦ rw e (at_32 cs f) | inr w ↦ let k : c ≡ (c - 9) + 9 = omega arith in blank_at (c - 9) c cs f k (omega arith) ]

-- what begins no gap
abbrev pub NoGap : List ℕ → Type 0
NoGap [] = Unit {0}
NoGap (c ∷ cs) = (is_white c ≡ false) × (c ≢ 37)

no_gap_by : (c : ℕ) (cs f : List ℕ) (t : Token) (b : Bool) → is_white c ≡ b → token_of (c ∷ cs) f ≡ Some t → (is_white c ≡ false) × (c ≢ 37)
no_gap_by c cs f t true e h = let k = white_at c cs f e in absurd cc
no_gap_by c cs f t false e h = (e, λ i. let k : token_of (c ∷ cs) f ≡ None = rw i (at_37 cs f) in absurd cc)

pub empty_has_none : (f : List ℕ) (t : Token) → token_of [] f ≡ Some t → ⊥
unfolding token_of
empty_has_none f t h = cc

pub token_no_gap : (text f : List ℕ) (t : Token) → token_of text f ≡ Some t → NoGap (text ++ f)
token_no_gap [] f t h = absurd (empty_has_none f t h)
token_no_gap (c ∷ cs) f t h = no_gap_by c cs f t (is_white c) refl h
