-- Quoted texts and characters at the front: what is found is one, and there is no other.
use Rattle.std.proofs.Common.{◌≡◌, ℕ, zero, suc, ◌≤◌, ◌+◌, true, false, List, [], ◌∷◌, ◌++◌, length, take, Some, None, refl, ap, ◌∙◌, arith, inl, inr}
use Rattle.std.specs.Prelude.{◌&&◌, not, if◌then◌else◌}
use Rattle.std.proofs.Math.Dec.{eqb}
use Rattle.std.proofs.lemmas.Bool.{eqb-true, not-true}
use Rattle.erl_tree.specs.Lexis.{is_escape, is_quoted, is_character}
use Rattle.erl_tree.specs.Profile.{further}
use Rattle.erl_tree.proofs.TokenTexts.{chosen, and_true}
use Rattle.erl_lexer.specs.Scan.{first_is, quoted_run, character_run}
use Rattle.erl_lexer.proofs.IntegerTexts.{further_is}

pub not_92 : (quote c : ℕ) → eqb quote 92 ≡ false → eqb c quote ≡ true → eqb c 92 ≡ false
not_92 quote c n e = rw (eqb-true c quote e) n

closes : (quote c : ℕ) (more : List ℕ) → eqb quote 92 ≡ false → eqb c quote ≡ true → quoted_run quote (c ∷ more) ≡ Some 1
closes quote c [] n e = rw (not_92 quote c n e, e) refl
closes quote c (d ∷ ds) n e = rw (not_92 quote c n e, e) refl

pub quoted_covers : (quote : ℕ) (word more : List ℕ) → eqb quote 92 ≡ false → is_quoted quote word ≡ true → quoted_run quote (word ++ more) ≡ Some (length word)
quoted_covers quote [] more n h = absurd cc
quoted_covers quote (c ∷ []) more n h = closes quote c more n h
quoted_covers quote (c ∷ d ∷ cs) more n h =
    elim (chosen (eqb c 92) (is_escape d && is_quoted quote cs) (not (eqb c quote) && is_quoted quote (d ∷ cs)) true h) [
      | inl w ↦
          let a = and_true (is_escape d) (is_quoted quote cs) w.1 in
          let k : 2 + length cs ≡ suc (suc (length cs)) = omega arith in
          rw (w.0, a.0, quoted_covers quote cs more n a.1) (ap (λ (x : ℕ). Some x) k)
      | inr w ↦
          let a = and_true (not (eqb c quote)) (is_quoted quote (d ∷ cs)) w.1 in
          let r : quoted_run quote (d ∷ (cs ++ more)) ≡ Some (suc (length cs)) = quoted_covers quote (d ∷ cs) more n a.1 in
          let k : 1 + suc (length cs) ≡ suc (suc (length cs)) = omega arith in
          rw (w.0, not-true _ a.0) (ap (further 1) r ∙ ap (λ (x : ℕ). Some x) k)
    ]

-- so many characters at the front are what follows an opening quote
pub record IsQuotedRun (quote n : ℕ) (text : List ℕ) : Type 0 where
  pub is : is_quoted quote (take n text) ≡ true
  pub within : n ≤ length text
  pub some : 1 ≤ n

quoted_one : (quote c n : ℕ) (cs : List ℕ) → eqb c quote ≡ true → Some 1 ≡ Some n → IsQuotedRun quote n (c ∷ cs)
quoted_one quote c n cs e g = let k : n ≡ 1 = cc in rw k (record { is = e; within = omega arith; some = omega arith })

quoted_more : (quote c m n : ℕ) (d : ℕ) (cs : List ℕ) → eqb c 92 ≡ false → eqb c quote ≡ false → IsQuotedRun quote m (d ∷ cs) → n ≡ 1 + m → IsQuotedRun quote n (c ∷ d ∷ cs)
quoted_more quote c zero n d cs e g r h = absurd (omega (arith, r.some))
quoted_more quote c (suc m) n d cs e g r h =
    let k : n ≡ suc (suc m) = omega arith in
    rw k (record { is = rw (e, g) r.is; within = omega (arith, r.within); some = omega arith })

quoted_escape : (quote c m n : ℕ) (d : ℕ) (cs : List ℕ) → eqb c 92 ≡ true → is_escape d ≡ true → IsQuotedRun quote m cs → n ≡ 2 + m → IsQuotedRun quote n (c ∷ d ∷ cs)
quoted_escape quote c m n d cs e g r h =
    let k : n ≡ suc (suc m) = omega arith in
    rw k (record { is = rw (e, g) r.is; within = omega (arith, r.within); some = omega arith })

pub quoted_is : (quote n : ℕ) (text : List ℕ) → quoted_run quote text ≡ Some n → IsQuotedRun quote n text
quoted_is quote n [] h = absurd cc
quoted_is quote n (c ∷ []) h =
    elim (chosen (eqb c 92) None (if eqb c quote then Some 1 else None) (Some n) h) [
      | inl w ↦ absurd (let z : None ≡ Some n = w.1 in cc)
      | inr w ↦ elim (chosen (eqb c quote) (Some 1) None (Some n) w.1) [
        | inl v ↦ quoted_one quote c n [] v.0 v.1
        | inr v ↦ absurd (let z : None ≡ Some n = v.1 in cc)
      ]
    ]
quoted_is quote n (c ∷ d ∷ cs) h =
    elim (chosen (eqb c 92) (if is_escape d then further 2 (quoted_run quote cs) else None) (if eqb c quote then Some 1 else further 1 (quoted_run quote (d ∷ cs))) (Some n) h) [
      | inl w ↦ elim (chosen (is_escape d) (further 2 (quoted_run quote cs)) None (Some n) w.1) [
        | inl v ↦ let f = further_is 2 n (quoted_run quote cs) v.1 in quoted_escape quote c f.0 n d cs w.0 v.0 (quoted_is quote f.0 cs f.1) f.2
        | inr v ↦ absurd (let z : None ≡ Some n = v.1 in cc)
      ]
      | inr w ↦ elim (chosen (eqb c quote) (Some 1) (further 1 (quoted_run quote (d ∷ cs))) (Some n) w.1) [
        | inl v ↦ quoted_one quote c n (d ∷ cs) v.0 v.1
        | inr v ↦ let f = further_is 1 n (quoted_run quote (d ∷ cs)) v.1 in quoted_more quote c f.0 n d cs w.0 v.0 (quoted_is quote f.0 (d ∷ cs) f.1) f.2
      ]
    ]

-- ---- characters

pub character_covers : (word more : List ℕ) → is_character word ≡ true → character_run (word ++ more) ≡ Some (length word)
character_covers [] more h = absurd cc
character_covers (c ∷ []) more h = rw (not-true _ h) refl
character_covers (c ∷ d ∷ []) more h = let a = and_true (eqb c 92) (is_escape d) h in rw (a.0, a.1) refl
character_covers (c ∷ d ∷ e ∷ cs) more h = absurd cc

pub record IsCharacterRun (n : ℕ) (text : List ℕ) : Type 0 where
  pub is : is_character (take n text) ≡ true
  pub within : n ≤ length text

escape_run : (c n : ℕ) (cs : List ℕ) → eqb c 92 ≡ true → first_is is_escape cs ≡ true → n ≡ 2 → IsCharacterRun n (c ∷ cs)
escape_run c n [] e g h = absurd cc
escape_run c n (d ∷ ds) e g h = rw h (record { is = rw (e, g) refl; within = omega arith })

pub character_is : (n : ℕ) (text : List ℕ) → character_run text ≡ Some n → IsCharacterRun n text
character_is n [] h = absurd cc
character_is n (c ∷ cs) h =
    elim (chosen (eqb c 92) (if first_is is_escape cs then Some 2 else None) (Some 1) (Some n) h) [
      | inl w ↦ elim (chosen (first_is is_escape cs) (Some 2) None (Some n) w.1) [
        | inl v ↦ let z : Some 2 ≡ Some n = v.1 in escape_run c n cs w.0 v.0 cc
        | inr v ↦ absurd (let z : None ≡ Some n = v.1 in cc)
      ]
      | inr w ↦ let z : Some 1 ≡ Some n = w.1 in let k : n ≡ 1 = cc in rw k (record { is = rw w.0 refl; within = omega arith })
    ]
