-- Tests, guards and guards behind `when`: what is read is right, and what is well formed is read again.
use Rattle.std.proofs.Common.{◌≡◌, ℕ, zero, suc, ◌≤◌, ◌<◌, List, [], ◌∷◌, ◌++◌, map, length, refl, ap, sym, ◌∙◌, subst, inl, inr, append_assoc, append-nil, length-append, arith}
use Rattle.std.specs.Prelude.{Option, Some, None, Ok, codes}
use Rattle.erl_tree.specs.Lists.{Among}
use Rattle.erl_tree.specs.declared.token.Place.{Place}
use Rattle.erl_tree.specs.declared.token.Placed.{Placed}
use Rattle.erl_tree.specs.declared.token.Node.{Node}
use Rattle.erl_tree.specs.declared.token.Token.TheVariants as T
use Rattle.erl_tree.specs.declared.expr.ExprKind.{ExprKind}
use Rattle.erl_grammar.specs.declared.misfit.Misfit.{Misfit}
use Rattle.erl_grammar.specs.declared.misfit.Misfit.TheVariants as misfits
use Rattle.erl_grammar.specs.Pieces.{at, Piece, own, inner, fill, between, commas}
use Rattle.erl_grammar.specs.Spelling.{expr_tokens, expr_guard_tokens, optional_guard, when_pieces}
use Rattle.erl_grammar.specs.Nesting.{Deep, deep_all, deep_optional, deep_guard, expr_deep}
use Rattle.erl_grammar.specs.Guards.{misfit, IsGuardExpr}
use Rattle.erl_grammar.specs.Grammar.{node, AreSeparators, all_of, NoneEmpty, IsExpr, IsGuard, guard, IsWhen, no_guard, when_guard}
use Rattle.erl_parser_tokens.specs.declared.height.Height.{Height}
use Rattle.erl_parser_tokens.specs.declared.height.Measured.{Measured}
use Rattle.erl_parser_tokens.specs.Heights.{flat, measured}
use Rattle.erl_parser_tokens.specs.Tokens.{Answer, ◌>>=◌, first_place}
use Rattle.erl_parser_tokens.specs.Outside.{HasOutside, IsOutside, guard_call}
use Rattle.erl_parser_exprs.specs.Expressions.{Level, Guarded, no_tests, with_test, with_comma, completed, with_semicolon, fitting, read_test, read_tests, Guard, read_guard, When, read_when}
use Rattle.erl_parser_tokens.proofs.Right.{Measures}
use Rattle.erl_parser_tokens.proofs.HeightLaws.{among_front, among_behind, measures_as, nothing_measured, both_measured, higher_within}
use Rattle.erl_parser_tokens.proofs.Then.{behind_token, behind_part, behind_behind, Right, right_ok, right_fault, right_outside, right_as, right_behind, right_then, right_next, right_case, IsRead, Again, again_ok, again_as, again_from, again_then, again_none, again_some, IsPart, IsDeep, again_read}
use Rattle.erl_parser_tokens.proofs.TokenLaws.{IsMarkNext, mark-again, mark-takes, IsWordNext, word-again, word-takes}
use Rattle.erl_parser_exprs.proofs.Levels.{EndsExpr, IsLevel}
use Rattle.erl_parser_exprs.proofs.FirstTokens.{expr_first_place}
use Rattle.erl_parser_exprs.proofs.Endings.{EndsGuard, EndsWhen, closes-expr, comma-closes, semicolon-closes}
use Rattle.erl_parser_tokens.proofs.Endings.{mark-none}
use Rattle.erl_parser_exprs.proofs.ItemLaws.{two_parts, parts_behind, deeper_in}

abbrev Expr : Type 0
Expr = Node ExprKind

-- ---- tests

-- a test was read
pub record TestRead (levels : ℕ) (ts : List Placed) (q : Measured (Node ExprKind) × List Placed) : Type 0 where
  pub read : IsRead (IsExpr 0) expr_tokens expr_deep levels ts q
  pub fits : IsGuardExpr q.0.tree

call_stands : (levels : ℕ) (ts : List Placed) (q : Measured Expr × List Placed) (p : Place) → IsRead (IsExpr 0) expr_tokens expr_deep levels ts q → misfit q.0.tree ≡ Some (misfits.Call p) → HasOutside ts p (codes "built-in")
call_stands levels ts q p h m = record { before = []; rest = ts; split = refl; stands = subst (IsOutside (codes "built-in") p []) (sym h.takes) (guard_call q.0.tree p [] q.1 h.formed m) }

fitting-right : (levels : ℕ) (ts : List Placed) (q : Measured Expr × List Placed) → IsRead (IsExpr 0) expr_tokens expr_deep levels ts q → (m : Option Misfit) → misfit q.0.tree ≡ m → Right (TestRead levels ts) ts (fitting m (Ok q))
fitting-right levels ts q h None e = right_ok (record { read = h; fits = e })
fitting-right levels ts q h (Some (misfits.Call p)) e = right_outside (call_stands levels ts q p h e)
fitting-right levels ts q h (Some (misfits.Other p)) e = right_fault tt

-- a test is read rightly
pub test-right : (levels : ℕ) (l : Level) → IsLevel levels l → (ts : List Placed) → Right (TestRead levels ts) ts (read_test l ts)
unfolding read_test
test-right levels l L ts = right_then (L.expr_right ts) λ q h. fitting-right levels ts q h (misfit q.0.tree) refl

-- a test is read again
pub test-again : (levels : ℕ) (l : Level) → IsLevel levels l → (e : Node ExprKind) (rest : List Placed) → IsExpr 0 e → IsGuardExpr e → EndsExpr rest → Again (IsPart e rest) (IsDeep expr_deep levels e) (read_test l (expr_tokens e ++ rest))
unfolding read_test
test-again levels l L e rest i m f = again_read _ (L.expr_again e rest i f) (λ p d. d) λ h. again_from (ap (λ o. fitting o (Ok (measured e h, rest))) m) (again_ok (h, refl))

-- ---- tests with commas, and alternatives with semicolons between them

-- the text of alternatives
abbrev pub alternative_pieces : List (List (Node ExprKind)) → List Piece
alternative_pieces alternatives = between (T.Mark (codes ";")) (map (λ tests. commas (map expr_tokens tests)) alternatives)

comma_pieces : (e t : Expr) (ts : List Expr) (others : List (List Expr)) → alternative_pieces ((e ∷ t ∷ ts) ∷ others) ≡ inner (expr_tokens e) ∷ own (T.Mark (codes ",")) ∷ alternative_pieces ((t ∷ ts) ∷ others)
comma_pieces e t ts [] = refl
comma_pieces e t ts (o ∷ os) = refl

-- the places of nodes of alternatives that are nested too deep
abbrev alternatives_deep : List (List Expr) → Deep
alternatives_deep alternatives = deep_all (deep_all expr_deep) alternatives

-- more tests were read, and more alternatives, behind those that were
pub record TestsRead (levels : ℕ) (g : Guarded) (ts : List Placed) (q : Guarded × List Placed) : Type 0 where
  pub test : Node ExprKind
  pub tests : List (Node ExprKind)
  pub others : List (List (Node ExprKind))
  pub gap_marks : List Place
  pub alternatives : completed q.0 ≡ g.alternatives ++ (g.tests ++ test ∷ tests) ∷ others
  pub marks : q.0.marks ≡ g.marks ++ gap_marks
  pub none_empty : NoneEmpty others
  pub gaps : AreSeparators (all_of ((test ∷ tests) ∷ others)) gap_marks
  pub formed : (e : Node ExprKind) → Among e (all_of ((test ∷ tests) ∷ others)) → IsExpr 0 e
  pub fits : (e : Node ExprKind) → Among e (all_of ((test ∷ tests) ∷ others)) → IsGuardExpr e
  pub takes : ts ≡ fill (alternative_pieces ((test ∷ tests) ∷ others)) gap_marks ++ q.1
  pub measures : (f : Deep) → Measures f g.height → Measures (λ n. f n ++ deep_all (deep_all expr_deep) ((test ∷ tests) ∷ others) n) q.0.height
  pub within : g.height.depth ≤ levels → q.0.height.depth ≤ levels

in_front : {A : Type 0} (P : A → Type 0) (x : A) (xs : List A) → P x → ((y : A) → Among y xs → P y) → (y : A) → Among y (x ∷ xs) → P y
in_front P x xs h k y (inl e) = subst P (sym e) h
in_front P x xs h k y (inr a) = k y a

in_one : {A : Type 0} (P : A → Type 0) (x : A) → P x → (y : A) → Among y (x ∷ []) → P y
in_one P x h y (inl e) = subst P (sym e) h
in_one P x h y (inr a) = elim a [ ]

last_test : (levels : ℕ) (g : Guarded) (ts : List Placed) (e : Measured Expr × List Placed) → TestRead levels ts e → TestsRead levels g ts (with_test g e.0, e.1)
last_test levels g ts e h = record {
  test = e.0.tree;
  tests = [];
  others = [];
  gap_marks = [];
  alternatives = refl;
  marks = sym (append-nil g.marks);
  none_empty = tt;
  gaps = tt;
  formed = in_one (IsExpr 0) e.0.tree h.read.formed;
  fits = in_one IsGuardExpr e.0.tree h.fits;
  takes = h.read.takes ∙ ap (λ l. l ++ e.1) (sym (append-nil (expr_tokens e.0.tree)));
  measures = λ f m. measures_as (λ n. ap (λ l. f n ++ l) (append-nil (expr_deep e.0.tree n ++ []) ∙ append-nil (expr_deep e.0.tree n))) (both_measured m h.read.measures);
  within = λ l. higher_within g.height e.0.height levels l h.read.within;
}

test_comma : (levels : ℕ) (g : Guarded) (ts : List Placed) (e : Measured Expr × List Placed) (m : Place × List Placed) (q : Guarded × List Placed) → TestRead levels ts e → IsMarkNext (codes ",") e.1 m → TestsRead levels (with_comma (with_test g e.0) m.0) m.1 q → TestsRead levels g ts q
test_comma levels g ts e m q h i r = record {
  test = e.0.tree;
  tests = r.test ∷ r.tests;
  others = r.others;
  gap_marks = m.0 ∷ r.gap_marks;
  alternatives = r.alternatives ∙ ap (λ l. g.alternatives ++ l ∷ r.others) (append_assoc g.tests (e.0.tree ∷ []) (r.test ∷ r.tests));
  marks = r.marks ∙ append_assoc g.marks (m.0 ∷ []) r.gap_marks;
  none_empty = r.none_empty;
  gaps = r.gaps;
  formed = in_front (IsExpr 0) e.0.tree (all_of ((r.test ∷ r.tests) ∷ r.others)) h.read.formed r.formed;
  fits = in_front IsGuardExpr e.0.tree (all_of ((r.test ∷ r.tests) ∷ r.others)) h.fits r.fits;
  takes = two_parts _ (expr_tokens e.0.tree) (fill (alternative_pieces ((r.test ∷ r.tests) ∷ r.others)) r.gap_marks) ts e.1 m.1 q.1 _ (ap (λ ps. fill ps (m.0 ∷ r.gap_marks)) (comma_pieces e.0.tree r.test r.tests r.others)) h.read.takes i r.takes;
  measures = λ f k. measures_as (λ n. ap (λ l. f n ++ l) (append_assoc (expr_deep e.0.tree n) (deep_all expr_deep (r.test ∷ r.tests) n) (alternatives_deep r.others n)) ∙ sym (append_assoc (f n) (expr_deep e.0.tree n) (alternatives_deep ((r.test ∷ r.tests) ∷ r.others) n))) (r.measures (λ n. f n ++ expr_deep e.0.tree n) (both_measured k h.read.measures));
  within = λ l. r.within (higher_within g.height e.0.height levels l h.read.within);
}

test_semicolon : (levels : ℕ) (g : Guarded) (ts : List Placed) (e : Measured Expr × List Placed) (m : Place × List Placed) (q : Guarded × List Placed) → TestRead levels ts e → IsMarkNext (codes ";") e.1 m → TestsRead levels (with_semicolon (with_test g e.0) m.0) m.1 q → TestsRead levels g ts q
test_semicolon levels g ts e m q h i r = record {
  test = e.0.tree;
  tests = [];
  others = (r.test ∷ r.tests) ∷ r.others;
  gap_marks = m.0 ∷ r.gap_marks;
  alternatives = r.alternatives ∙ append_assoc g.alternatives ((g.tests ++ e.0.tree ∷ []) ∷ []) ((r.test ∷ r.tests) ∷ r.others);
  marks = r.marks ∙ append_assoc g.marks (m.0 ∷ []) r.gap_marks;
  none_empty = r.none_empty;
  gaps = r.gaps;
  formed = in_front (IsExpr 0) e.0.tree (all_of ((r.test ∷ r.tests) ∷ r.others)) h.read.formed r.formed;
  fits = in_front IsGuardExpr e.0.tree (all_of ((r.test ∷ r.tests) ∷ r.others)) h.fits r.fits;
  takes = two_parts _ (expr_tokens e.0.tree) (fill (alternative_pieces ((r.test ∷ r.tests) ∷ r.others)) r.gap_marks) ts e.1 m.1 q.1 _ refl h.read.takes i r.takes;
  measures = λ f k. measures_as (λ n. ap (λ l. f n ++ (l ++ alternatives_deep ((r.test ∷ r.tests) ∷ r.others) n)) (append-nil (expr_deep e.0.tree n)) ∙ sym (append_assoc (f n) (expr_deep e.0.tree n) (alternatives_deep ((r.test ∷ r.tests) ∷ r.others) n))) (r.measures (λ n. f n ++ expr_deep e.0.tree n) (both_measured k h.read.measures));
  within = λ l. r.within (higher_within g.height e.0.height levels l h.read.within);
}

-- tests and alternatives are read rightly, behind those that were read
pub tests-right : (levels : ℕ) (l : Level) → IsLevel levels l → (k : ℕ) (g : Guarded) (ts : List Placed) → Right (TestsRead levels g ts) ts (read_tests l k g ts)
unfolding read_tests
tests-right levels l L zero g ts = right_fault tt
tests-right levels l L (suc k) g ts = right_then (test-right levels l L ts) λ e h. right_case
    (λ x. right_case
    (λ y. right_ok (last_test levels g ts e h))
    (λ m y. let i = mark-takes (codes ";") e.1 m y in
    right_behind (behind_behind (behind_part (expr_tokens e.0.tree) h.read.takes) (behind_token i)) (right_as (λ q r. test_semicolon levels g ts e m q h i r) (tests-right levels l L k (with_semicolon (with_test g e.0) m.0) m.1))))
    (λ m x. let i = mark-takes (codes ",") e.1 m x in
    right_behind (behind_behind (behind_part (expr_tokens e.0.tree) h.read.takes) (behind_token i)) (right_as (λ q r. test_comma levels g ts e m q h i r) (tests-right levels l L k (with_comma (with_test g e.0) m.0) m.1)))

-- ---- tests and alternatives are read again

shorter : (front us rest : List Placed) (t : Placed) (k : ℕ) → length (front ++ t ∷ (us ++ rest)) < suc k → length (us ++ rest) < k
shorter front us rest t k l = omega (arith, length-append front (t ∷ (us ++ rest)))

-- these tests and alternatives were read, behind those that were
abbrev AreTests : Guarded → Expr → List Expr → List (List Expr) → List Place → List Placed → Guarded × List Placed → Type 0
AreTests g t ts others ms rest q = (completed q.0 ≡ g.alternatives ++ (g.tests ++ t ∷ ts) ∷ others) × (q.0.marks ≡ g.marks ++ ms) × (q.1 ≡ rest)

tests_comma : (g : Guarded) (e : Measured Expr) (t : Expr) (ts : List Expr) (others : List (List Expr)) (m : Place) (ms : List Place) (rest : List Placed) (q : Guarded × List Placed) → AreTests (with_comma (with_test g e) m) t ts others ms rest q → AreTests g e.tree (t ∷ ts) others (m ∷ ms) rest q
tests_comma g e t ts others m ms rest q r = (r.0 ∙ ap (λ l. g.alternatives ++ l ∷ others) (append_assoc g.tests (e.tree ∷ []) (t ∷ ts)), r.1 ∙ append_assoc g.marks (m ∷ []) ms, r.2)

tests_semicolon : (g : Guarded) (e : Measured Expr) (t : Expr) (ts : List Expr) (others : List (List Expr)) (m : Place) (ms : List Place) (rest : List Placed) (q : Guarded × List Placed) → AreTests (with_semicolon (with_test g e) m) t ts others ms rest q → AreTests g e.tree [] ((t ∷ ts) ∷ others) (m ∷ ms) rest q
tests_semicolon g e t ts others m ms rest q r = (r.0 ∙ append_assoc g.alternatives ((g.tests ++ e.tree ∷ []) ∷ []) ((t ∷ ts) ∷ others), r.1 ∙ append_assoc g.marks (m ∷ []) ms, r.2)

tests-again : (levels : ℕ) (l : Level) → IsLevel levels l → (k : ℕ) (g : Guarded) (t : Expr) (ts : List Expr) (others : List (List Expr)) (ms : List Place) (rest : List Placed)
    → NoneEmpty others → AreSeparators (all_of ((t ∷ ts) ∷ others)) ms → ((e : Expr) → Among e (all_of ((t ∷ ts) ∷ others)) → IsExpr 0 e) → ((e : Expr) → Among e (all_of ((t ∷ ts) ∷ others)) → IsGuardExpr e) → EndsGuard rest
    → length (fill (alternative_pieces ((t ∷ ts) ∷ others)) ms ++ rest) < k
    → Again (AreTests g t ts others ms rest) (λ p. Among p (alternatives_deep ((t ∷ ts) ∷ others) levels)) (read_tests l k g (fill (alternative_pieces ((t ∷ ts) ∷ others)) ms ++ rest))
unfolding read_tests
tests-again levels l L zero g t ts others ms rest n a i j f s = absurd (omega arith)
tests-again levels l L (suc k) g t [] [] [] rest n a i j f s = again_from (ap (λ us. read_tests l (suc k) g (us ++ rest)) (append-nil (expr_tokens t)))
    (again_read _ (test-again levels l L t rest (i t (inl refl)) (j t (inl refl)) f.ends_expr) (λ p d. deeper_in p (append-nil (expr_deep t levels ++ []) ∙ append-nil (expr_deep t levels)) d) λ h.
    again_none _ f.no_comma (again_none _ f.no_semicolon (again_ok (refl, sym (append-nil g.marks), refl))))
tests-again levels l L (suc k) g t [] ([] ∷ others) ms rest n a i j f s = absurd n
tests-again levels l L (suc k) g t [] ((u ∷ us) ∷ others) (m ∷ ms) rest n a i j f s =
    let back : List Placed = fill (alternative_pieces ((u ∷ us) ∷ others)) ms in
    let e : fill (alternative_pieces ((t ∷ []) ∷ (u ∷ us) ∷ others)) (m ∷ ms) ++ rest ≡ expr_tokens t ++ at (T.Mark (codes ";")) m ∷ (back ++ rest) = parts_behind _ (expr_tokens t) back rest _ refl in
    again_from (ap (read_tests l (suc k) g) e)
    (again_read _ (test-again levels l L t _ (i t (inl refl)) (j t (inl refl)) (closes-expr semicolon-closes m (back ++ rest))) (λ p d. among_front p (expr_deep t levels ++ []) _ (among_front p (expr_deep t levels) [] d)) λ h.
    again_none _ (mark-none (codes ",") (T.Mark (codes ";")) m (back ++ rest) refl)
    (again_some _ _ (mark-again (codes ";") m (back ++ rest))
    (again_as (λ q r. tests_semicolon g (measured t h) u us others m ms rest q r) (λ p d. among_behind p (expr_deep t levels ++ []) _ d)
    (tests-again levels l L k (with_semicolon (with_test g (measured t h)) m) u us others ms rest n a (λ x y. i x (inr y)) (λ x y. j x (inr y)) f (shorter (expr_tokens t) back rest _ k (subst (λ z. length z < suc k) e s))))))
tests-again levels l L (suc k) g t (u ∷ us) others (m ∷ ms) rest n a i j f s =
    let back : List Placed = fill (alternative_pieces ((u ∷ us) ∷ others)) ms in
    let e : fill (alternative_pieces ((t ∷ u ∷ us) ∷ others)) (m ∷ ms) ++ rest ≡ expr_tokens t ++ at (T.Mark (codes ",")) m ∷ (back ++ rest) = parts_behind _ (expr_tokens t) back rest _ (ap (λ ps. fill ps (m ∷ ms)) (comma_pieces t u us others)) in
    again_from (ap (read_tests l (suc k) g) e)
    (again_read _ (test-again levels l L t _ (i t (inl refl)) (j t (inl refl)) (closes-expr comma-closes m (back ++ rest))) (λ p d. among_front p _ (alternatives_deep others levels) (among_front p (expr_deep t levels) _ d)) λ h.
    again_some _ _ (mark-again (codes ",") m (back ++ rest))
    (again_as (λ q r. tests_comma g (measured t h) u us others m ms rest q r) (λ p d. deeper_in p (append_assoc (expr_deep t levels) (deep_all expr_deep (u ∷ us) levels) (alternatives_deep others levels)) (among_behind p (expr_deep t levels) _ d))
    (tests-again levels l L k (with_comma (with_test g (measured t h)) m) u us others ms rest n a (λ x y. i x (inr y)) (λ x y. j x (inr y)) f (shorter (expr_tokens t) back rest _ k (subst (λ z. length z < suc k) e s)))))
tests-again levels l L (suc k) g t _ _ _ rest n a i j f s = absurd a

-- ---- guards

-- the tokens of alternatives begin with those of the first test
first_test : (t : Expr) (ts : List Expr) (others : List (List Expr)) → (ps : List Piece) × (alternative_pieces ((t ∷ ts) ∷ others) ≡ inner (expr_tokens t) ∷ ps)
first_test t [] [] = ([], refl)
first_test t [] (o ∷ os) = (_, refl)
first_test t (u ∷ us) [] = (_, refl)
first_test t (u ∷ us) (o ∷ os) = (_, refl)

guard_is : {p q : Place} {ms ns : List Place} {alternatives others : List (List Expr)} → p ≡ q → ms ≡ ns → alternatives ≡ others → node p ms alternatives ≡ node q ns others
guard_is {p} {q} {ms} {ns} {alternatives} {others} a b c = ap (λ x. node x ms alternatives) a ∙ (ap (λ x. node q x alternatives) b ∙ ap (node q ns) c)

-- a guard was read, or none
pub record WhenRead (levels : ℕ) (ts : List Placed) (q : When × List Placed) : Type 0 where
  pub formed : IsWhen q.0.guard q.0.marks
  pub takes : ts ≡ fill (when_pieces (optional_guard expr_tokens q.0.guard)) q.0.marks ++ q.1
  pub measures : Measures (deep_optional (deep_guard expr_deep) q.0.guard) q.0.height
  pub within : q.0.height.depth ≤ levels

-- a guard that may be left out, with the mark of its `when` and its height
abbrev pub when_of : Option Guard → List Place → Height → When
when_of w ws h = record { guard = w; marks = ws; height = h }

-- this guard was read, or none
abbrev pub AreWhen : Option Guard → List Place → List Placed → When × List Placed → Type 0
AreWhen w ws rest q = (h : Height) × (q ≡ (when_of w ws h, rest))

-- the guard was read again, and those steps behind it
pub again_when : {Y : Type 0} {H : Y → Type 0} {D E : Place → Type 0} {w : Option Guard} {ws : List Place} {rest : List Placed} {answer : Answer (When × List Placed)} (next : When × List Placed → Answer Y) → Again (AreWhen w ws rest) D answer → ((p : Place) → D p → E p) → ((h : Height) → Again H E (next (when_of w ws h, rest))) → Again H E (answer >>= next)
again_when {H = H} {E = E} next a d k = again_then a d λ q g. subst (λ z. Again H E (next z)) (sym g.1) (k g.0)

-- the place of the first test
guard_place : (t : Expr) (ts : List Expr) (others : List (List Expr)) (ms : List Place) (rest : List Placed) → IsExpr 0 t → first_place (fill (alternative_pieces ((t ∷ ts) ∷ others)) ms ++ rest) ≡ t.place
guard_place t ts others ms rest i =
    let e = first_test t ts others in
    ap (λ ps. first_place (fill ps ms ++ rest)) e.1 ∙ (ap first_place (append_assoc (expr_tokens t) (fill e.0 ms) rest) ∙ expr_first_place t (fill e.0 ms ++ rest) i)

guard_read : (levels : ℕ) (ts : List Placed) (q : Guarded × List Placed) → TestsRead levels no_tests ts q → IsRead IsGuard expr_guard_tokens (deep_guard expr_deep) levels ts (measured (node (first_place ts) q.0.marks (completed q.0)) q.0.height, q.1)
guard_read levels ts q r =
    let place : first_place ts ≡ r.test.place = ap first_place r.takes ∙ guard_place r.test r.tests r.others r.gap_marks q.1 (r.formed r.test (inl refl)) in
    let one : IsRead IsGuard expr_guard_tokens (deep_guard expr_deep) levels ts (measured (node r.test.place r.gap_marks ((r.test ∷ r.tests) ∷ r.others)) q.0.height, q.1) = record {
      formed = guard r.gap_marks r.test r.tests r.others r.none_empty r.gaps r.formed r.fits;
      takes = r.takes;
      measures = r.measures (λ n. []) (nothing_measured (λ n. refl));
      within = r.within (omega arith);
    } in
    subst (λ z. IsRead IsGuard expr_guard_tokens (deep_guard expr_deep) levels ts (measured z q.0.height, q.1)) (sym (guard_is place r.marks r.alternatives)) one

-- a guard is read rightly
pub guard-right : (levels : ℕ) (l : Level) → IsLevel levels l → (ts : List Placed) → Right (IsRead IsGuard expr_guard_tokens (deep_guard expr_deep) levels ts) ts (read_guard l ts)
unfolding read_guard
guard-right levels l L ts = right_then (tests-right levels l L (suc (length ts)) no_tests ts) λ q r. right_ok (guard_read levels ts q r)

-- a guard is read again
pub guard-again : (levels : ℕ) (l : Level) → IsLevel levels l → (g : Guard) (rest : List Placed) → IsGuard g → EndsGuard rest → Again (IsPart g rest) (IsDeep (deep_guard expr_deep) levels g) (read_guard l (expr_guard_tokens g ++ rest))
unfolding read_guard
guard-again levels l L _ rest (guard ms t ts others n a i j) f =
    let us : List Placed = fill (alternative_pieces ((t ∷ ts) ∷ others)) ms ++ rest in
    again_then (tests-again levels l L (suc (length us)) no_tests t ts others ms rest n a i j f (omega arith)) (λ p d. d) λ q r.
    again_ok (q.0.height, ap (λ z. (measured z q.0.height, q.1)) (guard_is (guard_place t ts others ms rest (i t (inl refl))) r.1 r.0) ∙ ap (λ z. (measured (node t.place ms ((t ∷ ts) ∷ others)) q.0.height, z)) r.2)

none_read : (levels : ℕ) (ts : List Placed) → WhenRead levels ts (when_of None [] flat, ts)
none_read levels ts = record { formed = no_guard; takes = refl; measures = nothing_measured (λ n. refl); within = omega arith }

some_read : (levels : ℕ) (ts : List Placed) (w : Place × List Placed) (g : Measured Guard × List Placed) → IsWordNext (codes "when") ts w → IsRead IsGuard expr_guard_tokens (deep_guard expr_deep) levels w.1 g → WhenRead levels ts (when_of (Some g.0.tree) (w.0 ∷ []) g.0.height, g.1)
some_read levels ts w g e h = record {
  formed = when_guard w.0 g.0.tree h.formed;
  takes = e ∙ ap (λ l. at (T.Word (codes "when")) w.0 ∷ l) (h.takes ∙ ap (λ l. l ++ g.1) (sym (append-nil (expr_guard_tokens g.0.tree))));
  measures = h.measures;
  within = h.within;
}

-- a guard that may be left out is read rightly
pub when-right : (levels : ℕ) (l : Level) → IsLevel levels l → (ts : List Placed) → Right (WhenRead levels ts) ts (read_when l ts)
unfolding read_when
when-right levels l L ts = right_case
    (λ e. right_ok (none_read levels ts))
    (λ w e. let i = word-takes (codes "when") ts w e in right_next (behind_token i) (guard-right levels l L w.1) λ g h. right_ok (some_read levels ts w g i h))

-- a guard that may be left out is read again
pub when-again : (levels : ℕ) (l : Level) → IsLevel levels l → (w : Option Guard) (ws : List Place) (rest : List Placed) → IsWhen w ws → EndsWhen rest → Again (AreWhen w ws rest) (λ p. Among p (deep_optional (deep_guard expr_deep) w levels)) (read_when l (fill (when_pieces (optional_guard expr_tokens w)) ws ++ rest))
unfolding read_when
when-again levels l L _ _ rest no_guard f = again_none _ f.no_when (again_ok (flat, refl))
when-again levels l L _ _ rest (when_guard w g i) f = again_from (ap (λ us. read_when l (at (T.Word (codes "when")) w ∷ (us ++ rest))) (append-nil (expr_guard_tokens g)))
    (again_some _ _ (word-again (codes "when") w (expr_guard_tokens g ++ rest)) (again_read _ (guard-again levels l L g rest i f.ends_guard) (λ p d. d) λ h. again_ok (h, refl)))
