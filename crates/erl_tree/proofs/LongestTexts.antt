-- The longest front of some characters that is the text of a token.
use Rattle.std.proofs.Common.{◌≡◌, refl, sym, ◌∙◌, ap, subst, ℕ, ◌<◌, ◌≤◌, List, [], ◌∷◌, ◌++◌, length, Bool, true, false, arith, append_assoc, length-append, leb, inl, inr}
use Rattle.std.specs.Prelude.{◌⊎◌, not, ◌&&◌}
use Rattle.std.proofs.lemmas.List.{append-nil}
use Rattle.std.proofs.lemmas.Bool.{leb-true, leb-false}
use Rattle.erl_tree.specs.Lexis.{IsLongest, is_token_text}
use Rattle.erl_tree.proofs.TokenTexts.{and_true}
use Rattle.erl_tree.proofs.Gaps.{cons_is}

-- neither the front nor any longer prefix is the text of a token
abbrev pub none_from : List ℕ → List ℕ → Bool
none_from front [] = not (is_token_text front)
none_from front (c ∷ cs) = not (is_token_text front) && none_from (front ++ c ∷ []) cs

not_both : (b : Bool) → b ≡ true → not b ≡ true → ⊥
not_both true e h = cc
not_both false e h = cc

-- a longer text is the front and some more
pub none_longer : (front cs more after : List ℕ) → none_from front cs ≡ true → cs ≡ more ++ after → is_token_text (front ++ more) ≡ true → ⊥
none_longer front [] [] after h e t = not_both (is_token_text front) (ap is_token_text (sym (append-nil front)) ∙ t) h
none_longer front [] (d ∷ ds) after h e t = cc
none_longer front (c ∷ cs) [] after h e t = not_both (is_token_text front) (ap is_token_text (sym (append-nil front)) ∙ t) (and_true (not (is_token_text front)) (none_from (front ++ c ∷ []) cs) h).0
none_longer front (c ∷ cs) (d ∷ ds) after h e t =
    let s = cons_is c d cs (ds ++ after) e in
    none_longer (front ++ c ∷ []) cs ds after (and_true (not (is_token_text front)) (none_from (front ++ c ∷ []) cs) h).1 s.1 (ap is_token_text (append_assoc front (c ∷ []) ds ∙ ap (λ x. front ++ x ∷ ds) s.0) ∙ t)

-- a text that is cut in two ways: the second front is no longer than the first, or goes on after it
cut : (text follow longer after : List ℕ) → text ++ follow ≡ longer ++ after → (length longer ≤ length text → ⊥) → (more : List ℕ) × (longer ≡ text ++ more) × (follow ≡ more ++ after)
cut [] follow longer after e n = (longer, refl, e)
cut (c ∷ cs) follow [] after e n = absurd (n (omega arith))
cut (c ∷ cs) follow (d ∷ ds) after e n =
    let s = cons_is c d (cs ++ follow) (ds ++ after) e in
    let r = cut cs follow ds after s.1 (λ h. n (omega (arith, h))) in
    (r.0, cc (s.0, r.1), r.2)

le_or : (m n : ℕ) → ((m ≤ n → ⊥) → ⊥) → m ≤ n
le_or m n h = by_test (leb m n) refl
  where
    by_test : (b : Bool) → leb m n ≡ b → m ≤ n
    by_test true e = leb-true m n e
    by_test false e = let l : n < m = leb-false m n e in absurd (h (λ k. absurd (omega arith)))

-- a text is the longest where no longer prefix of what stands there is the text of a token
pub longest : (text : List ℕ) (c : ℕ) (cs : List ℕ) → none_from (text ++ c ∷ []) cs ≡ true → IsLongest text (c ∷ cs)
longest text c cs h longer after e t = le_or (length longer) (length text) (λ n. longer_than (cut text (c ∷ cs) longer after e n) n)
  where
    longer_than : (more : List ℕ) × (longer ≡ text ++ more) × (c ∷ cs ≡ more ++ after) → (length longer ≤ length text → ⊥) → ⊥
    longer_than ([], p, q) n = n (omega (arith, ap length (p ∙ append-nil text)))
    longer_than (d ∷ ds, p, q) n =
        let s = cons_is c d cs (ds ++ after) q in
        none_longer (text ++ c ∷ []) cs ds after h s.1 (ap is_token_text (append_assoc text (c ∷ []) ds ∙ (ap (λ x. text ++ x ∷ ds) s.0 ∙ sym p)) ∙ t)

pub longest_last : (text : List ℕ) → IsLongest text []
longest_last text longer after e t = omega (arith, ap length e, length-append text [], length-append longer after)

-- what is found: a front of the characters that continues another one to the longest text of a token
abbrev pub IsFound : (front rest : List ℕ) → Type 0
IsFound front rest = (more after : List ℕ) × (rest ≡ more ++ after) × (is_token_text (front ++ more) ≡ true) × IsLongest (front ++ more) after

-- characters continue a front to a longest text of a token, or in no way to one
pub found_or_none : (front rest : List ℕ) → IsFound front rest ⊎ (none_from front rest ≡ true)
found_or_none front [] = by_test (is_token_text front) refl
  where
    by_test : (b : Bool) → is_token_text front ≡ b → IsFound front [] ⊎ (none_from front [] ≡ true)
    by_test true e = inl ([], [], refl, ap is_token_text (append-nil front) ∙ e, longest_last (front ++ []))
    by_test false e = inr (rw e refl)
found_or_none front (c ∷ cs) = by_rest (found_or_none (front ++ c ∷ []) cs)
  where
    by_test : (b : Bool) → is_token_text front ≡ b → none_from (front ++ c ∷ []) cs ≡ true → IsFound front (c ∷ cs) ⊎ (none_from front (c ∷ cs) ≡ true)
    by_test true e n = inl ([], c ∷ cs, refl, ap is_token_text (append-nil front) ∙ e, subst (λ (x : List ℕ). IsLongest x (c ∷ cs)) (sym (append-nil front)) (longest front c cs n))
    by_test false e n = inr (rw e n)

    by_rest : IsFound (front ++ c ∷ []) cs ⊎ (none_from (front ++ c ∷ []) cs ≡ true) → IsFound front (c ∷ cs) ⊎ (none_from front (c ∷ cs) ≡ true)
    by_rest (inl (more, after, e, t, l)) =
        let k : (front ++ c ∷ []) ++ more ≡ front ++ c ∷ more = append_assoc front (c ∷ []) more in
        inl (c ∷ more, after, cc e, ap is_token_text (sym k) ∙ t, subst (λ (x : List ℕ). IsLongest x after) k l)
    by_rest (inr n) = by_test (is_token_text front) refl n
