-- Going on with the parameters that were read gives what reading gives: the steps of the loop.
use Rattle.std.proofs.Common.{◌≡◌, ℕ, zero, suc, ◌<◌, true, false, List, [], ◌∷◌, ◌++◌, length, Some, None, Ok, Err, refl, ap, sym, ◌∙◌, arith}
use Rattle.std.specs.Prelude.{nat_le, codes}
use Rattle.erl_tree.specs.declared.token.Place.{Place}
use Rattle.erl_tree.specs.declared.token.Placed.{Placed}
use Rattle.erl_parser_tokens.specs.declared.height.Measured.{Measured}
use Rattle.erl_parser_tokens.specs.declared.fault.ParseFault.{ParseFault}
use Rattle.erl_parser_tokens.specs.declared.fault.ParseFault.TheVariants as faults
use Rattle.erl_parser_tokens.specs.Tokens.{Answer, Reads, ◌>>=◌, Fails, expect, mark}
use Rattle.erl_parser_tokens.specs.Parts.{Several, no_parts, with_part, with_mark, too_many, read_more_parameters}
use Rattle.erl_parser_tokens.specs.Views.{IsFault}
use Rattle.erl_parser_tokens.proofs.LoopLaws.{fails_by, first_fails}

-- going on with the parameters that were read gives what reading gives
abbrev pub GoingParameters : {A : Type 0} → Reads (Measured A) → Several A → List Placed → Answer (Several A × List Placed) → Type 0
GoingParameters inner s rest total = (k : ℕ) × (length rest < k) × (total ≡ read_more_parameters inner k s rest)

-- the count of parts with one more
count_more : {A : Type 0} (xs : List A) (x : A) → length (xs ++ x ∷ []) ≡ suc (length xs)
count_more [] x = refl
count_more (y ∷ ys) x = ap suc (count_more ys x)

count_with : {A : Type 0} (s t : Several A) (x : Measured A) → t ≡ with_part s x → suc (length s.items) ≡ length t.items
count_with s t x e = rw e (sym (count_more s.items x.tree))

module _ {A : Type 0} (inner : Reads (Measured A)) where
  pub parameters_begin : (s : Several A) (ts : List Placed) → s ≡ no_parts → GoingParameters inner s ts (read_more_parameters inner (suc (length ts)) no_parts ts)
  parameters_begin s ts e = (suc (length ts), omega arith, rw e refl)

  parameter_goes_on : (k : ℕ) (s : Several A) (ts : List Placed) (x : Measured A) (behind : List Placed) (m : Place) (more : List Placed)
      → inner ts ≡ Ok (x, behind) → mark (codes ",") behind ≡ Some (m, more) → nat_le 255 (suc (length s.items)) ≡ false → read_more_parameters inner (suc k) s ts ≡ read_more_parameters inner k (with_mark (with_part s x) m) more
  unfolding read_more_parameters
  parameter_goes_on k s ts x behind m more h e d = rw (h, e, d) refl

  pub parameters_step : (s : Several A) (rest : List Placed) (total : Answer (Several A × List Placed)) (t u : Several A) (x : Measured A) (behind : List Placed) (m : Place) (more : List Placed)
      → GoingParameters inner s rest total → inner rest ≡ Ok (x, behind) → mark (codes ",") behind ≡ Some (m, more) → length more < length rest → t ≡ with_part s x → nat_le 255 (length t.items) ≡ false → u ≡ with_mark t m → GoingParameters inner u more total
  parameters_step s rest total t u x behind m more (zero, i, e) h c d v n w = absurd (omega arith)
  parameters_step s rest total t u x behind m more (suc k, i, e) h c d v n w =
      (k, omega arith, rw (w, v) (e ∙ parameter_goes_on k s rest x behind m more h c (ap (λ j. nat_le 255 j) (count_with s t x v) ∙ n)))

  parameter_full : (k : ℕ) (s : Several A) (ts : List Placed) (x : Measured A) (behind : List Placed) (m : Place) (more : List Placed)
      → inner ts ≡ Ok (x, behind) → mark (codes ",") behind ≡ Some (m, more) → nat_le 255 (suc (length s.items)) ≡ true → read_more_parameters inner (suc k) s ts ≡ too_many more
  unfolding read_more_parameters
  parameter_full k s ts x behind m more h e d = rw (h, e, d) refl

  pub parameters_full : (s : Several A) (rest : List Placed) (total : Answer (Several A × List Placed)) (t : Several A) (x : Measured A) (behind : List Placed) (m : Place) (more : List Placed)
      → GoingParameters inner s rest total → inner rest ≡ Ok (x, behind) → mark (codes ",") behind ≡ Some (m, more) → t ≡ with_part s x → nat_le 255 (length t.items) ≡ true → total ≡ too_many more
  parameters_full s rest total t x behind m more (zero, i, e) h c v n = absurd (omega arith)
  parameters_full s rest total t x behind m more (suc k, i, e) h c v n = e ∙ parameter_full k s rest x behind m more h c (ap (λ j. nat_le 255 j) (count_with s t x v) ∙ n)

  parameter_ends : (k : ℕ) (s : Several A) (ts : List Placed) (x : Measured A) (behind : List Placed) → inner ts ≡ Ok (x, behind) → mark (codes ",") behind ≡ None
      → read_more_parameters inner (suc k) s ts ≡ (expect (mark (codes ")")) behind >>= λ c. Ok (with_mark (with_part s x) c.0, c.1))
  unfolding read_more_parameters
  parameter_ends k s ts x behind h e = rw (h, e) refl

  pub parameters_end : (s : Several A) (rest : List Placed) (total : Answer (Several A × List Placed)) (t u : Several A) (x : Measured A) (behind : List Placed) (c : Place) (more : List Placed)
      → GoingParameters inner s rest total → inner rest ≡ Ok (x, behind) → mark (codes ",") behind ≡ None → expect (mark (codes ")")) behind ≡ Ok (c, more) → t ≡ with_part s x → u ≡ with_mark t c → total ≡ Ok (u, more)
  parameters_end s rest total t u x behind c more (zero, i, e) h n d v w = absurd (omega arith)
  parameters_end s rest total t u x behind c more (suc k, i, e) h n d v w = e ∙ (parameter_ends k s rest x behind h n ∙ rw (d, w, v) refl)

  pub parameters_open : (f : ParseFault) (s : Several A) (rest : List Placed) (total : Answer (Several A × List Placed)) (x : Measured A) (behind : List Placed)
      → GoingParameters inner s rest total → inner rest ≡ Ok (x, behind) → mark (codes ",") behind ≡ None → Fails f (expect (mark (codes ")")) behind) → Fails f total
  parameters_open f s rest total x behind (zero, i, e) h n d = absurd (omega arith)
  parameters_open f s rest total x behind (suc k, i, e) h n d = fails_by f (e ∙ parameter_ends k s rest x behind h n) (first_fails f (expect (mark (codes ")")) behind) (λ c. Ok (with_mark (with_part s x) c.0, c.1)) d)

  parameter_fails : (f : ParseFault) (k : ℕ) (s : Several A) (ts : List Placed) → Fails f (inner ts) → Fails f (read_more_parameters inner (suc k) s ts)
  unfolding read_more_parameters
  parameter_fails f k s ts h = first_fails f (inner ts) _ h

  pub parameters_fail : (f : ParseFault) (s : Several A) (rest : List Placed) (total : Answer (Several A × List Placed)) → GoingParameters inner s rest total → Fails f (inner rest) → Fails f total
  parameters_fail f s rest total (zero, i, e) h = absurd (omega arith)
  parameters_fail f s rest total (suc k, i, e) h = fails_by f e (parameter_fails f k s rest h)

-- the fault that a function made is what the reader answers
pub fault_fails : {A : Type 0} (expected f : ParseFault) {total : Answer A} → total ≡ Err expected → IsFault expected f → Fails f total
fault_fails expected faults.NoMemory e h = tt
fault_fails expected (faults.OutOfProfile p form) e h = e ∙ ap Err h
fault_fails expected (faults.Unexpected p) e h = e ∙ ap Err h
fault_fails expected (faults.TooDeep p) e h = e ∙ ap Err h
