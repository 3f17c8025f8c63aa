-- Two gaps before what begins no gap are one.
use Rattle.std.proofs.Common.{◌≡◌, ℕ, Bool, true, false, List, [], ◌∷◌, ◌++◌, refl, sym, subst, ◌∙◌, inl, inr}
use Rattle.erl_tree.specs.Lexis.{is_white, IsGap}
use Rattle.erl_tree.proofs.TokenTexts.{NoGap}

pub cons_is : {A : Type 0} (x y : A) (xs ys : List A) → x ∷ xs ≡ y ∷ ys → (x ≡ y) × (xs ≡ ys)
cons_is x y xs ys e = (cc, cc)

absurd_white : (c : ℕ) → c ≡ 37 → is_white c ≡ true → ⊥
absurd_white c e h = let k : is_white 37 ≡ true = rw e at h in cc

pub one_gap : (commented : Bool) (gap other rest more : List ℕ) → gap ++ rest ≡ other ++ more → IsGap commented gap rest → IsGap commented other more → NoGap rest → NoGap more → (gap ≡ other) × (rest ≡ more)
one_gap commented [] [] rest more e h g n m = (refl, e)
one_gap false [] (c ∷ cs) rest more e h g n m =
    let k : NoGap (c ∷ (cs ++ more)) = subst NoGap e n in
    elim g [ inl w ↦ absurd (let z : false ≡ true = sym k.0 ∙ w.0 in cc) | inr w ↦ absurd (k.1 w.0) ]
one_gap true [] (c ∷ cs) rest more e h g n m = absurd cc
one_gap false (c ∷ cs) [] rest more e h g n m =
    let k : NoGap (c ∷ (cs ++ rest)) = subst NoGap (sym e) m in
    elim h [ inl w ↦ absurd (let z : false ≡ true = sym k.0 ∙ w.0 in cc) | inr w ↦ absurd (k.1 w.0) ]
one_gap true (c ∷ cs) [] rest more e h g n m = absurd cc
one_gap false (c ∷ cs) (d ∷ ds) rest more e h g n m =
    let s = cons_is c d (cs ++ rest) (ds ++ more) e in
    elim h [
      | inl w ↦ elim g [
        | inl v ↦ let r = one_gap false cs ds rest more s.1 w.1 v.1 n m in (cc (s.0, r.0), r.1)
        | inr v ↦ absurd (absurd_white c (s.0 ∙ v.0) w.0)
      ]
      | inr w ↦ elim g [
        | inl v ↦ absurd (absurd_white d (sym s.0 ∙ w.0) v.0)
        | inr v ↦ let r = one_gap true cs ds rest more s.1 w.1 v.1 n m in (cc (s.0, r.0), r.1)
      ]
    ]
one_gap true (c ∷ cs) (d ∷ ds) rest more e h g n m =
    let s = cons_is c d (cs ++ rest) (ds ++ more) e in
    elim h [
      | inl w ↦ elim g [
        | inl v ↦ let r = one_gap false cs ds rest more s.1 w.1 v.1 n m in (cc (s.0, r.0), r.1)
        | inr v ↦ absurd (v.0 (sym s.0 ∙ w.0))
      ]
      | inr w ↦ elim g [
        | inl v ↦ absurd (w.0 (s.0 ∙ v.0))
        | inr v ↦ let r = one_gap true cs ds rest more s.1 w.1 v.1 n m in (cc (s.0, r.0), r.1)
      ]
    ]
