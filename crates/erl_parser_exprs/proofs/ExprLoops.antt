-- Going on with what was read gives what reading gives: the steps of the loops over tests and what follows an expression.
use Rattle.std.proofs.Common.{◌≡◌, ◌∙◌, ℕ, zero, suc, ◌<◌, List, length, Option, Some, None, Ok, Bool, true, false, refl, arith}
use Rattle.std.specs.Prelude.{codes, if◌then◌else◌}
use Rattle.erl_tree.specs.declared.token.Place.{Place}
use Rattle.erl_tree.specs.declared.token.Placed.{Placed}
use Rattle.erl_parser_tokens.specs.declared.height.Measured.{Measured}
use Rattle.erl_parser_tokens.specs.declared.fault.ParseFault.{ParseFault}
use Rattle.erl_parser_exprs.specs.declared.tails.Tail.{Tail as FoundTail}
use Rattle.erl_parser_exprs.specs.declared.tails.Tail.TheVariants as follows
use Rattle.erl_parser_tokens.specs.Tokens.{Answer, ◌>>=◌, Fails, in_case, mark}
use Rattle.erl_parser_exprs.specs.Operations.{Expr}
use Rattle.erl_parser_exprs.specs.Expressions.{Level, Guarded, no_tests, with_test, with_comma, with_semicolon, read_test, read_tests, Headed, tail_of, read_tails}
use Rattle.erl_parser_exprs.specs.Levels.{separator, with_separator, tail_seen, read_one_tail}
use Rattle.erl_parser_tokens.proofs.LoopLaws.{fails_by, first_fails}

-- ---- tests of a guard

abbrev pub GoingTests : Level → Guarded → List Placed → Answer (Guarded × List Placed) → Type 0
GoingTests l g rest total = (k : ℕ) × (length rest < k) × (total ≡ read_tests l k g rest)

pub tests_begin : (l : Level) (g : Guarded) (ts : List Placed) → g ≡ no_tests → GoingTests l g ts (read_tests l (suc (length ts)) no_tests ts)
tests_begin l g ts e = (suc (length ts), omega arith, rw e refl)

-- what follows by the mark behind a test
abbrev two_marks : (o p : Option (Place × List Placed)) → Option ((Bool × Place) × List Placed)
two_marks o p = in_case o (in_case p None (λ m. Some ((true, m.0), m.1))) (λ m. Some ((false, m.0), m.1))

module _ {R : Type 0} (none : R) (semi comma : Place × List Placed → R) where
  abbrev by_one : (Bool × Place) × List Placed → R
  by_one m = if m.0.0 then semi (m.0.1, m.1) else comma (m.0.1, m.1)

  by_two : (o p : Option (Place × List Placed)) → in_case o (in_case p none semi) comma ≡ in_case (two_marks o p) none by_one
  by_two (Some m) p = refl
  by_two None (Some m) = refl
  by_two None None = refl

  by_separator : (behind : List Placed) → in_case (mark (codes ",") behind) (in_case (mark (codes ";") behind) none semi) comma ≡ in_case (separator behind) none by_one
  unfolding separator
  by_separator behind = by_two (mark (codes ",") behind) (mark (codes ";") behind)

module _ (l : Level) where
  with_one : (k : ℕ) (g : Guarded) (is_semicolon : Bool) (m : Place) (more : List Placed)
      → (if is_semicolon then read_tests l k (with_semicolon g m) more else read_tests l k (with_comma g m) more) ≡ read_tests l k (with_separator g is_semicolon m) more
  with_one k g true m more = refl
  with_one k g false m more = refl

  after_test : ℕ → Guarded → List Placed → Answer (Guarded × List Placed)
  after_test k g behind = in_case (mark (codes ",") behind) (in_case (mark (codes ";") behind) (Ok (g, behind)) (λ m. read_tests l k (with_semicolon g m.0) m.1)) (λ m. read_tests l k (with_comma g m.0) m.1)

  after_is : (k : ℕ) (g : Guarded) (behind : List Placed) → after_test k g behind
      ≡ in_case (separator behind) (Ok (g, behind)) (by_one (Ok (g, behind)) (λ m. read_tests l k (with_semicolon g m.0) m.1) (λ m. read_tests l k (with_comma g m.0) m.1))
  unfolding after_test
  after_is k g behind = by_separator (Ok (g, behind)) (λ m. read_tests l k (with_semicolon g m.0) m.1) (λ m. read_tests l k (with_comma g m.0) m.1) behind

  test_read : (k : ℕ) (g : Guarded) (ts : List Placed) (x : Measured Expr) (behind : List Placed) → read_test l ts ≡ Ok (x, behind) → read_tests l (suc k) g ts ≡ after_test k (with_test g x) behind
  unfolding read_tests after_test
  test_read k g ts x behind h = rw h refl

  pub tests_step : (g : Guarded) (rest : List Placed) (total : Answer (Guarded × List Placed)) (t u : Guarded) (x : Measured Expr) (behind : List Placed) (is_semicolon : Bool) (m : Place) (more : List Placed)
      → GoingTests l g rest total → read_test l rest ≡ Ok (x, behind) → separator behind ≡ Some ((is_semicolon, m), more) → length more < length rest → t ≡ with_test g x → u ≡ with_separator t is_semicolon m → GoingTests l u more total
  tests_step g rest total t u x behind b m more (zero, i, e) h s d v w = absurd (omega arith)
  tests_step g rest total t u x behind b m more (suc k, i, e) h s d v w =
      (k, omega arith, rw (w, v) (e ∙ (test_read k g rest x behind h ∙ (after_is k (with_test g x) behind ∙ rw s (with_one k (with_test g x) b m more)))))

  pub tests_end : (g : Guarded) (rest : List Placed) (total : Answer (Guarded × List Placed)) (t : Guarded) (x : Measured Expr) (behind : List Placed)
      → GoingTests l g rest total → read_test l rest ≡ Ok (x, behind) → separator behind ≡ None → t ≡ with_test g x → total ≡ Ok (t, behind)
  tests_end g rest total t x behind (zero, i, e) h s v = absurd (omega arith)
  tests_end g rest total t x behind (suc k, i, e) h s v = e ∙ (test_read k g rest x behind h ∙ (after_is k (with_test g x) behind ∙ rw (s, v) refl))

  test_fails : (f : ParseFault) (k : ℕ) (g : Guarded) (ts : List Placed) → Fails f (read_test l ts) → Fails f (read_tests l (suc k) g ts)
  unfolding read_tests
  test_fails f k g ts h = first_fails f (read_test l ts) _ h

  pub tests_fail : (f : ParseFault) (g : Guarded) (rest : List Placed) (total : Answer (Guarded × List Placed)) → GoingTests l g rest total → Fails f (read_test l rest) → Fails f total
  tests_fail f g rest total (zero, i, e) h = absurd (omega arith)
  tests_fail f g rest total (suc k, i, e) h = fails_by f e (test_fails f k g rest h)

-- ---- what follows an expression

abbrev pub GoingTails : Level → ℕ → Headed → List Placed → Answer (Measured Expr × List Placed) → Type 0
GoingTails l levels e rest total = (k : ℕ) × (length rest < k) × (total ≡ read_tails k l levels e rest)

pub tails_begin : (l : Level) (levels : ℕ) (e : Headed) (ts : List Placed) → GoingTails l levels e ts (read_tails (suc (length ts)) l levels e ts)
tails_begin l levels e ts = (suc (length ts), omega arith, refl)

module _ (l : Level) (levels : ℕ) where
  tail_goes_on : (k : ℕ) (e : Headed) (ts : List Placed) (t : FoundTail) → tail_seen (Some t) ≡ tail_of e.1 ts → read_tails (suc k) l levels e ts ≡ (read_one_tail t l levels e.0 >>= λ f. read_tails k l levels f.0 f.1)
  unfolding read_tails
  tail_goes_on k e ts (follows.OfMap h o more) q = rw (← q) refl
  tail_goes_on k e ts (follows.OfRecord h name n more) q = rw (← q) refl

  pub tails_step : (e : Headed) (rest : List Placed) (total : Answer (Measured Expr × List Placed)) (t : FoundTail) (f : Headed) (behind : List Placed)
      → GoingTails l levels e rest total → tail_seen (Some t) ≡ tail_of e.1 rest → read_one_tail t l levels e.0 ≡ Ok (f, behind) → length behind < length rest → GoingTails l levels f behind total
  tails_step e rest total t f behind (zero, i, g) q h d = absurd (omega arith)
  tails_step e rest total t f behind (suc k, i, g) q h d = (k, omega arith, g ∙ (tail_goes_on k e rest t q ∙ rw h refl))

  pub tails_fail : (f : ParseFault) (e : Headed) (rest : List Placed) (total : Answer (Measured Expr × List Placed)) (t : FoundTail)
      → GoingTails l levels e rest total → tail_seen (Some t) ≡ tail_of e.1 rest → Fails f (read_one_tail t l levels e.0) → Fails f total
  tails_fail f e rest total t (zero, i, g) q h = absurd (omega arith)
  tails_fail f e rest total t (suc k, i, g) q h = fails_by f (g ∙ tail_goes_on k e rest t q) (first_fails f (read_one_tail t l levels e.0) (λ x. read_tails k l levels x.0 x.1) h)

  tail_ends : (k : ℕ) (e : Headed) (ts : List Placed) → tail_seen None ≡ tail_of e.1 ts → read_tails (suc k) l levels e ts ≡ Ok (e.0, ts)
  unfolding read_tails
  tail_ends k e ts q = rw (← q) refl

  pub tails_end : (e : Headed) (rest : List Placed) (total : Answer (Measured Expr × List Placed)) → GoingTails l levels e rest total → tail_seen None ≡ tail_of e.1 rest → total ≡ Ok (e.0, rest)
  tails_end e rest total (zero, i, g) q = absurd (omega arith)
  tails_end e rest total (suc k, i, g) q = g ∙ tail_ends k e rest q
