-- Runs over the front of a text, one character at a time.
use Rattle.std.proofs.Common.{◌≡◌, ℕ, zero, suc, ◌+◌, ◌<◌, ◌≤◌, Bool, true, false, List, [], ◌∷◌, length, get_or, take, drop, refl, ap, ◌∙◌, arith, add-one, drop-cons, inl, inr}
use Rattle.erl_tree.specs.declared.token.Place.{Place}
use Rattle.erl_tree.specs.Lexis.{is_white, IsGap}
use Rattle.erl_lexer.specs.Scan.{run, gap_run, bytes_after, byte_step}
use Rattle.erl_tree.proofs.TokenTexts.{NoGap}
use Rattle.std.proofs.lemmas.Bool.{eqb-true}
use Rattle.std.proofs.Math.Dec.{eqb}

pub first_of : (i : ℕ) (text : List ℕ) → i < length text → drop i text ≡ get_or text i 0 ∷ drop (i + 1) text
first_of i text h = rw (add-one, drop-cons text i 0) refl

pub none_of : (i : ℕ) (text : List ℕ) → length text ≤ i → drop i text ≡ []
none_of zero [] h = refl
none_of (suc i) [] h = refl
none_of zero (c ∷ cs) h = absurd (omega arith)
none_of (suc i) (c ∷ cs) h = none_of i cs (omega arith)

pub run_step : (p : ℕ → Bool) (i : ℕ) (text : List ℕ) → i < length text → p (get_or text i 0) ≡ true → run p (drop i text) ≡ suc (run p (drop (i + 1) text))
run_step p i text h e = ap (run p) (first_of i text h) ∙ rw e refl

pub run_stop : (p : ℕ → Bool) (i : ℕ) (text : List ℕ) → i < length text → p (get_or text i 0) ≡ false → run p (drop i text) ≡ 0
run_stop p i text h e = ap (run p) (first_of i text h) ∙ rw e refl

pub run_end : (p : ℕ → Bool) (i : ℕ) (text : List ℕ) → length text ≤ i → run p (drop i text) ≡ 0
run_end p i text h = ap (run p) (none_of i text h)

pub gap_white : (i : ℕ) (text : List ℕ) → i < length text → is_white (get_or text i 0) ≡ true → gap_run false (drop i text) ≡ suc (gap_run false (drop (i + 1) text))
gap_white i text h e = ap (gap_run false) (first_of i text h) ∙ rw e refl

pub gap_opens : (i : ℕ) (text : List ℕ) → i < length text → is_white (get_or text i 0) ≡ false → get_or text i 0 ≡ 37 → gap_run false (drop i text) ≡ suc (gap_run true (drop (i + 1) text))
gap_opens i text h w e = ap (gap_run false) (first_of i text h) ∙ rw e refl

pub gap_stops : (i : ℕ) (text : List ℕ) → i < length text → is_white (get_or text i 0) ≡ false → eqb (get_or text i 0) 37 ≡ false → gap_run false (drop i text) ≡ 0
gap_stops i text h w e = ap (gap_run false) (first_of i text h) ∙ rw (w, e) refl

pub gap_in : (i : ℕ) (text : List ℕ) → i < length text → eqb (get_or text i 0) 10 ≡ false → gap_run true (drop i text) ≡ suc (gap_run true (drop (i + 1) text))
gap_in i text h e = ap (gap_run true) (first_of i text h) ∙ rw e refl

pub gap_closes : (i : ℕ) (text : List ℕ) → i < length text → get_or text i 0 ≡ 10 → gap_run true (drop i text) ≡ suc (gap_run false (drop (i + 1) text))
gap_closes i text h e = ap (gap_run true) (first_of i text h) ∙ rw e refl

pub gap_end : (b : Bool) (i : ℕ) (text : List ℕ) → length text ≤ i → gap_run b (drop i text) ≡ 0
gap_end b i text h = ap (gap_run b) (none_of i text h)

-- what is run over is a gap, and begins none after it
pub record GapIs (commented : Bool) (text : List ℕ) : Type 0 where
  pub gap : IsGap commented (take (gap_run commented text) text) (drop (gap_run commented text) text)
  pub ends : NoGap (drop (gap_run commented text) text)
  pub within : gap_run commented text ≤ length text

gap_false : (c : ℕ) (cs : List ℕ) (w k : Bool) → is_white c ≡ w → eqb c 37 ≡ k → GapIs false cs → GapIs true cs → GapIs false (c ∷ cs)
gap_false c cs true k e f g h = record { gap = rw e (inl (e, g.gap)); ends = rw e g.ends; within = rw e (omega (arith, g.within)) }
gap_false c cs false true e f g h = record { gap = rw (e, f) (inr (eqb-true _ _ f, h.gap)); ends = rw (e, f) h.ends; within = rw (e, f) (omega (arith, h.within)) }
gap_false c cs false false e f g h = record { gap = rw (e, f) tt; ends = rw (e, f) (e, λ x. let z : eqb 37 37 ≡ false = rw x at f in cc); within = rw (e, f) (omega arith) }

gap_true : (c : ℕ) (cs : List ℕ) (k : Bool) → eqb c 10 ≡ k → GapIs false cs → GapIs true cs → GapIs true (c ∷ cs)
gap_true c cs true f g h = record { gap = rw f (inl (eqb-true _ _ f, g.gap)); ends = rw f g.ends; within = rw f (omega (arith, g.within)) }
gap_true c cs false f g h = record { gap = rw f (inr ((λ x. let z : eqb 10 10 ≡ false = rw x at f in cc), h.gap)); ends = rw f h.ends; within = rw f (omega (arith, h.within)) }

pub gap_is : (text : List ℕ) → GapIs false text × GapIs true text
gap_is [] = (record { gap = tt; ends = tt; within = omega arith }, record { gap = refl; ends = tt; within = omega arith })
gap_is (c ∷ cs) = let g = gap_is cs in (gap_false c cs (is_white c) (eqb c 37) refl refl g.0 g.1, gap_true c cs (eqb c 10) refl g.0 g.1)

pub after_step : (p : Place) (i : ℕ) (text : List ℕ) → i < length text → bytes_after p (drop i text) ≡ bytes_after (byte_step p (get_or text i 0)) (drop (i + 1) text)
after_step p i text h = ap (bytes_after p) (first_of i text h)

pub after_end : (p : Place) (i : ℕ) (text : List ℕ) → length text ≤ i → bytes_after p (drop i text) ≡ p
after_end p i text h = ap (bytes_after p) (none_of i text h)

pub ruleset runs = (run_step, run_stop, run_end)

pub ruleset gaps = (gap_white, gap_opens, gap_stops, gap_in, gap_closes, gap_end)

pub ruleset afters = (after_step, after_end)
