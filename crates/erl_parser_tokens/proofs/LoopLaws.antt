-- Going on with what was read gives what reading gives: the steps of the loops over parts with marks between them.
use Rattle.std.proofs.Common.{◌≡◌, ℕ, zero, suc, ◌<◌, List, [], ◌∷◌, length, Some, None, Result, Ok, Err, refl, ◌∙◌, arith}
use Rattle.std.specs.Prelude.{codes}
use Rattle.erl_tree.specs.declared.token.Place.{Place}
use Rattle.erl_tree.specs.declared.token.Placed.{Placed}
use Rattle.erl_parser_tokens.specs.declared.height.Height.{Height}
use Rattle.erl_parser_tokens.specs.declared.height.Measured.{Measured}
use Rattle.erl_parser_tokens.specs.declared.fault.ParseFault.{ParseFault}
use Rattle.erl_parser_tokens.specs.declared.fault.ParseFault.TheVariants as faults
use Rattle.erl_parser_tokens.specs.Heights.{higher, raised}
use Rattle.erl_parser_tokens.specs.Tokens.{Answer, Reads, ◌>>=◌, Fails, Gives, first_place, expect, mark}
use Rattle.erl_parser_tokens.specs.Parts.{Several, no_parts, with_part, with_mark, read_several, read_parts, read_closed, Cells, cells_of, with_element, close_cells, read_cells}
use Rattle.erl_parser_tokens.specs.Views.{read_cells_end}

-- a fault for want of memory is no claim, and another fault is what the reader answers
pub fails_by : {A : Type 0} (f : ParseFault) {total read : Answer A} → total ≡ read → Fails f read → Fails f total
fails_by faults.NoMemory e h = tt
fails_by (faults.OutOfProfile p form) e h = e ∙ h
fails_by (faults.Unexpected p) e h = e ∙ h
fails_by (faults.TooDeep p) e h = e ∙ h

pub gives_by : {X Y : Type 0} (view : X → Y) (result : Result X ParseFault) {total read : Answer Y} → total ≡ read → Gives view result read → Gives view result total
gives_by view (Ok x) e h = e ∙ h
gives_by view (Err f) e h = fails_by f e h

-- where what is read first fails, all of it fails
pub first_fails : {A B : Type 0} (f : ParseFault) (read : Answer A) (more : A → Answer B) → Fails f read → Fails f (read >>= more)
first_fails faults.NoMemory read more h = tt
first_fails (faults.OutOfProfile p form) read more h = rw h refl
first_fails (faults.Unexpected p) read more h = rw h refl
first_fails (faults.TooDeep p) read more h = rw h refl

module _ {A : Type 0} (separator : List ℕ) (inner : Reads (Measured A)) where
  -- one part more is read
  pub several_goes_on : (k : ℕ) (s : Several A) (ts : List Placed) (x : Measured A) (behind : List Placed) (m : Place) (more : List Placed)
      → inner ts ≡ Ok (x, behind) → mark separator behind ≡ Some (m, more) → read_several separator inner (suc k) s ts ≡ read_several separator inner k (with_mark (with_part s x) m) more
  unfolding read_several
  several_goes_on k s ts x behind m more h e = rw (h, e) refl

  pub several_ends : (k : ℕ) (s : Several A) (ts : List Placed) (x : Measured A) (behind : List Placed)
      → inner ts ≡ Ok (x, behind) → mark separator behind ≡ None → read_several separator inner (suc k) s ts ≡ Ok (with_part s x, behind)
  unfolding read_several
  several_ends k s ts x behind h e = rw (h, e) refl

  pub several_fails : (f : ParseFault) (k : ℕ) (s : Several A) (ts : List Placed) → Fails f (inner ts) → Fails f (read_several separator inner (suc k) s ts)
  unfolding read_several
  several_fails f k s ts h = first_fails f (inner ts) _ h

-- ---- parts with marks between them

-- going on with the parts that were read gives what reading gives
abbrev pub Going : {A : Type 0} → List ℕ → Reads (Measured A) → Several A → List Placed → Answer (Several A × List Placed) → Type 0
Going separator inner s rest total = (k : ℕ) × (length rest < k) × (total ≡ read_several separator inner k s rest)

module _ {A : Type 0} (separator : List ℕ) (inner : Reads (Measured A)) where
  pub going_begins : (s : Several A) (ts : List Placed) → s ≡ no_parts → Going separator inner s ts (read_parts separator inner ts)
  going_begins s ts e = (suc (length ts), omega arith, rw e refl)

  pub going_step : (s : Several A) (rest : List Placed) (total : Answer (Several A × List Placed)) (t : Several A) (u : Several A) (x : Measured A) (behind : List Placed) (m : Place) (more : List Placed)
      → Going separator inner s rest total → inner rest ≡ Ok (x, behind) → mark separator behind ≡ Some (m, more) → length more < length rest → t ≡ with_part s x → u ≡ with_mark t m → Going separator inner u more total
  going_step s rest total t u x behind m more (zero, l, g) h e d v w = absurd (omega arith)
  going_step s rest total t u x behind m more (suc k, l, g) h e d v w = (k, omega arith, g ∙ several_goes_on separator inner k s rest x behind m more h e ∙ rw (w, v) refl)

  pub going_ends : (s : Several A) (rest : List Placed) (total : Answer (Several A × List Placed)) (t : Several A) (x : Measured A) (behind : List Placed)
      → Going separator inner s rest total → inner rest ≡ Ok (x, behind) → mark separator behind ≡ None → t ≡ with_part s x → total ≡ Ok (t, behind)
  going_ends s rest total t x behind (zero, l, g) h e v = absurd (omega arith)
  going_ends s rest total t x behind (suc k, l, g) h e v = g ∙ several_ends separator inner k s rest x behind h e ∙ rw v refl

  pub going_fails : (f : ParseFault) (s : Several A) (rest : List Placed) (total : Answer (Several A × List Placed)) → Going separator inner s rest total → Fails f (inner rest) → Fails f total
  going_fails f s rest total (zero, l, g) h = absurd (omega arith)
  going_fails f s rest total (suc k, l, g) h = fails_by f g (several_fails separator inner f k s rest h)

-- ---- parts with a closing mark

-- the closing mark behind parts
abbrev pub closes : {A : Type 0} → List ℕ → Several A × List Placed → Answer (Several A × List Placed)
closes closing s = expect (mark closing) s.1 >>= λ c. Ok (with_mark s.0 c.0, c.1)

-- going on with the parts that were read gives what reading gives
abbrev pub Closing : {A : Type 0} → List ℕ → Reads (Measured A) → Several A → List Placed → Answer (Several A × List Placed) → Type 0
Closing closing inner s rest total = (k : ℕ) × (length rest < k) × (total ≡ (read_several (codes ",") inner k s rest >>= closes closing))

module _ {A : Type 0} (closing : List ℕ) (inner : Reads (Measured A)) where
  pub closed_empty : (ts : List Placed) (c : Place) (more : List Placed) → mark closing ts ≡ Some (c, more) → read_closed closing inner ts ≡ Ok (with_mark no_parts c, more)
  closed_empty ts c more h = rw h refl

  pub closing_begins : (s : Several A) (ts : List Placed) → s ≡ no_parts → mark closing ts ≡ None → Closing closing inner s ts (read_closed closing inner ts)
  closing_begins s ts e h = (suc (length ts), omega arith, rw (e, h) refl)

  pub closing_step : (s : Several A) (rest : List Placed) (total : Answer (Several A × List Placed)) (t : Several A) (u : Several A) (x : Measured A) (behind : List Placed) (m : Place) (more : List Placed)
      → Closing closing inner s rest total → inner rest ≡ Ok (x, behind) → mark (codes ",") behind ≡ Some (m, more) → length more < length rest → t ≡ with_part s x → u ≡ with_mark t m → Closing closing inner u more total
  closing_step s rest total t u x behind m more (zero, l, g) h e d v w = absurd (omega arith)
  closing_step s rest total t u x behind m more (suc k, l, g) h e d v w = (k, omega arith, rw (w, v, ← several_goes_on (codes ",") inner k s rest x behind m more h e) g)

  pub closing_ends : (s : Several A) (rest : List Placed) (total : Answer (Several A × List Placed)) (t : Several A) (u : Several A) (x : Measured A) (behind : List Placed) (c : Place) (more : List Placed)
      → Closing closing inner s rest total → inner rest ≡ Ok (x, behind) → mark (codes ",") behind ≡ None → expect (mark closing) behind ≡ Ok (c, more) → t ≡ with_part s x → u ≡ with_mark t c → total ≡ Ok (u, more)
  closing_ends s rest total t u x behind c more (zero, l, g) h e d v w = absurd (omega arith)
  closing_ends s rest total t u x behind c more (suc k, l, g) h e d v w = g ∙ rw (several_ends (codes ",") inner k s rest x behind h e, d, w, v) refl

  pub closing_open : (f : ParseFault) (s : Several A) (rest : List Placed) (total : Answer (Several A × List Placed)) (x : Measured A) (behind : List Placed)
      → Closing closing inner s rest total → inner rest ≡ Ok (x, behind) → mark (codes ",") behind ≡ None → Fails f (expect (mark closing) behind) → Fails f total
  closing_open f s rest total x behind (zero, l, g) h e d = absurd (omega arith)
  closing_open f s rest total x behind (suc k, l, g) h e d = fails_by f (g ∙ rw (several_ends (codes ",") inner k s rest x behind h e) refl) (first_fails f (expect (mark closing) behind) (λ c. Ok (with_mark (with_part s x) c.0, c.1)) d)

  pub closing_fails : (f : ParseFault) (s : Several A) (rest : List Placed) (total : Answer (Several A × List Placed))
      → Closing closing inner s rest total → Fails f (inner rest) → Fails f total
  closing_fails f s rest total (zero, l, g) h = absurd (omega arith)
  closing_fails f s rest total (suc k, l, g) h = fails_by f g (first_fails f (read_several (codes ",") inner (suc k) s rest) (closes closing) (several_fails (codes ",") inner f k s rest h))

-- ---- cells of lists

-- parts with another height
abbrev pub with_height : {A : Type 0} → Several A → Height → Several A
with_height s h = record { items = s.items; marks = s.marks; height = h }

module _ {A : Type 0} (total : Answer (Cells A × List Placed)) (deeper : List (Reads (Measured A))) (last : Reads (Measured A)) (levels : ℕ) (s : Several A) (rest : List Placed) (going : total ≡ read_cells deeper last levels s rest) where
  pub cells_too_deep : (m : Place) (more : List Placed) → deeper ≡ [] → mark (codes ",") rest ≡ Some (m, more) → total ≡ Err (faults.TooDeep (first_place more))
  unfolding read_cells
  cells_too_deep m more e h = going ∙ rw (e, h) refl

  pub cells_step : (next : Reads (Measured A)) (others : List (Reads (Measured A))) (m : Place) (more : List Placed) (x : Measured A) (behind : List Placed) (n : ℕ) (t u : Several A)
      → deeper ≡ next ∷ others → mark (codes ",") rest ≡ Some (m, more) → next more ≡ Ok (x, behind) → n ≡ suc levels → t ≡ with_mark s m → u ≡ with_element n t x → total ≡ read_cells others next n u behind
  unfolding read_cells
  cells_step next others m more x behind n t u e h r i v w = going ∙ rw (w, v, i, e, h, r) refl

  pub cells_fail : (f : ParseFault) (next : Reads (Measured A)) (others : List (Reads (Measured A))) (m : Place) (more : List Placed)
      → deeper ≡ next ∷ others → mark (codes ",") rest ≡ Some (m, more) → Fails f (next more) → Fails f total
  unfolding read_cells
  cells_fail f next others m more e h r = fails_by f (going ∙ rw (e, h) refl) (first_fails f (next more) (λ x. read_cells others next (suc levels) (with_element (suc levels) (with_mark s m) x.0) x.1) r)

  cells_close_by : (others : List (Reads (Measured A))) → mark (codes ",") rest ≡ None → read_cells others last levels s rest ≡ close_cells last levels s rest
  unfolding read_cells
  cells_close_by [] h = rw h refl
  cells_close_by (next ∷ others) h = rw h refl

  cells_close : mark (codes ",") rest ≡ None → total ≡ close_cells last levels s rest
  cells_close h = going ∙ cells_close_by deeper h

  pub cells_end : mark (codes ",") rest ≡ None → mark (codes "|") rest ≡ None → total ≡ read_cells_end s None rest
  unfolding close_cells
  cells_end h b = cells_close h ∙ rw b refl

  pub cells_tail_fails : (f : ParseFault) (m : Place) (more : List Placed) → mark (codes ",") rest ≡ None → mark (codes "|") rest ≡ Some (m, more) → Fails f (last more) → Fails f total
  unfolding close_cells
  cells_tail_fails f m more h b r = fails_by f (cells_close h ∙ rw b refl) (first_fails f (last more) (λ t. expect (mark (codes "]")) t.1 >>= λ c. Ok (cells_of (with_mark s m) (Some t.0.tree) c.0 (higher s.height (raised levels t.0.height)), c.1)) r)

  pub cells_tail : (m : Place) (more : List Placed) (x : Measured A) (behind : List Placed) (t : Several A) (h : Height)
      → mark (codes ",") rest ≡ None → mark (codes "|") rest ≡ Some (m, more) → last more ≡ Ok (x, behind) → t ≡ with_mark s m → h ≡ higher t.height (raised levels x.height)
      → total ≡ read_cells_end (with_height t h) (Some x.tree) behind
  unfolding close_cells
  cells_tail m more x behind t h e b r v w = cells_close e ∙ rw (w, v, b, r) refl
