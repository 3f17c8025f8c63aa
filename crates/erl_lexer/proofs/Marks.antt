-- The longest mark at the front.
use Rattle.std.proofs.Common.{◌≡◌, ℕ, zero, suc, ◌≤◌, Bool, true, false, List, [], ◌∷◌, ◌++◌, length, take, refl, ap, arith, inl, inr}
use Rattle.std.specs.Prelude.{◌⊎◌, ◌&&◌, if◌then◌else◌, nat_le}
use Rattle.std.specs.List.{list_any}
use Rattle.std.specs.Str.{bytes_eq}
use Rattle.std.proofs.lemmas.Bool.Decides.{nat_tests}
use Rattle.std.proofs.lemmas.Slice.Eq.{bytes_eq-Decides}
use Rattle.erl_tree.specs.Lexis.{is_mark, marks}
use Rattle.erl_tree.proofs.TokenTexts.{or_true, and_true}
use Rattle.erl_lexer.specs.Scan.{mark_length}

are_short : List (List ℕ) → Bool
are_short [] = true
are_short (m ∷ ms) = nat_le (length m) 3 && are_short ms

short_by : (text : List ℕ) (ms : List (List ℕ)) → are_short ms ≡ true → list_any (λ m. bytes_eq text m) ms ≡ true → length text ≤ 3
unfolding are_short
short_by text [] h g = absurd cc
short_by text (m ∷ ms) h g =
    let w = and_true (nat_le (length m) 3) (are_short ms) h in
    elim (or_true (bytes_eq text m) _ g) [
      | inl e ↦ let same : text ≡ m = (bytes_eq-Decides text m).0 e in let k : nat_le (length text) 3 ≡ true = rw same w.0 in grind (arith, nat_tests)
      | inr e ↦ short_by text ms w.1 e
    ]

-- a mark has at most three characters
mark_short : (text : List ℕ) → is_mark text ≡ true → length text ≤ 3
unfolding are_short
mark_short text h = short_by text marks refl h

take_taken : (n : ℕ) (text : List ℕ) → take (length (take n text)) text ≡ take n text
take_taken zero text = refl
take_taken (suc n) [] = refl
take_taken (suc n) (c ∷ cs) = ap (λ l. c ∷ l) (take_taken n cs)

taken_within : (n : ℕ) (text : List ℕ) → length (take n text) ≤ length text
taken_within zero text = omega arith
taken_within (suc n) [] = omega arith
taken_within (suc n) (c ∷ cs) = omega (arith, taken_within n cs)

abbrev pub Marked : List ℕ → ℕ → Type 0
Marked text k = (k ≡ 0) ⊎ ((is_mark (take k text) ≡ true) × (k ≤ length text))

marked_by : (n : ℕ) (text : List ℕ) (b : Bool) (other : ℕ) → is_mark (take n text) ≡ b → Marked text other → Marked text (if b then length (take n text) else other)
marked_by n text true other e h = inr (rw (take_taken n text) e, taken_within n text)
marked_by n text false other e h = h

-- so many characters at the front are a mark, or there is none
pub mark_is : (text : List ℕ) → Marked text (mark_length text)
mark_is text = marked_by 3 text (is_mark (take 3 text)) _ refl (marked_by 2 text (is_mark (take 2 text)) _ refl (marked_by 1 text (is_mark (take 1 text)) 0 refl (inl refl)))

covers_by : (b : Bool) (k a other : ℕ) → k ≤ a → (b ≡ false → k ≤ other) → k ≤ (if b then a else other)
covers_by true k a other h g = h
covers_by false k a other h g = g refl

covers_last : (b : Bool) (k a other : ℕ) → k ≤ a → b ≡ true → k ≤ (if b then a else other)
covers_last true k a other h g = h
covers_last false k a other h g = absurd cc

-- each mark at the front is within the length
pub mark_covers : (mark after : List ℕ) → is_mark mark ≡ true → length mark ≤ mark_length (mark ++ after)
mark_covers [] after h = absurd cc
mark_covers (c ∷ []) after h =
    covers_by (is_mark (take 3 (c ∷ after))) 1 _ _ (omega arith) (λ f. covers_by (is_mark (take 2 (c ∷ after))) 1 _ _ (omega arith) (λ g. covers_last (is_mark (c ∷ [])) 1 _ _ (omega arith) h))
mark_covers (c ∷ d ∷ []) after h = covers_by (is_mark (take 3 (c ∷ d ∷ after))) 2 _ _ (omega arith) (λ f. covers_last (is_mark (c ∷ d ∷ [])) 2 _ _ (omega arith) h)
mark_covers (c ∷ d ∷ e ∷ []) after h = covers_last (is_mark (c ∷ d ∷ e ∷ [])) 3 _ _ (omega arith) h
mark_covers (c ∷ d ∷ e ∷ f ∷ cs) after h = absurd (omega (arith, mark_short (c ∷ d ∷ e ∷ f ∷ cs) h))
