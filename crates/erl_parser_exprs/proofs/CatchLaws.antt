-- Clauses of a `catch` part: what is read is right, and what is well formed is read again.
use Rattle.std.proofs.Common.{◌≡◌, ℕ, true, false, List, [], ◌∷◌, ◌++◌, refl, ap, sym, ◌∙◌, subst, append_assoc, append-nil}
use Rattle.std.specs.Prelude.{Option, Some, None, codes}
use Rattle.erl_tree.specs.declared.token.Place.{Place}
use Rattle.erl_tree.specs.declared.token.Placed.{Placed}
use Rattle.erl_tree.specs.declared.token.Node.{Node}
use Rattle.erl_tree.specs.declared.token.Token.TheVariants as T
use Rattle.erl_tree.specs.declared.pattern.PatternKind.{PatternKind}
use Rattle.erl_tree.specs.declared.expr.ItemKind.{ItemKind}
use Rattle.erl_tree.specs.declared.expr.ClauseKind.{ClauseKind}
use Rattle.erl_tree.specs.declared.expr.CatchKind.{CatchKind}
use Rattle.erl_grammar.specs.Pieces.{at, fill}
use Rattle.erl_grammar.specs.Spelling.{pattern_tokens, case_clause_tokens, catch_tokens}
use Rattle.erl_grammar.specs.Nesting.{pattern_deep, clause_deep, catch_deep}
use Rattle.erl_grammar.specs.Grammar.{node, IsPattern, IsClass, IsWhen, no_guard, when_guard, clause_of, IsCaseClause, case_clause, catch_of, IsCatch, thrown, of_class}
use Rattle.erl_grammar.proofs.SpellingLaws.{catch_shown-catch_of}
use Rattle.erl_grammar.proofs.NestingLaws.{catch_kind_deep-catch_of}
use Rattle.erl_parser_tokens.specs.declared.height.Measured.{Measured}
use Rattle.erl_parser_tokens.specs.Heights.{higher, measured}
use Rattle.erl_parser_tokens.specs.Tokens.{is_mark, mark}
use Rattle.erl_parser_tokens.specs.Outside.{HasOutside, stack_trace}
use Rattle.erl_parser_exprs.specs.Expressions.{Level, Guard, class_next, read_caught, read_catch}
use Rattle.erl_parser_tokens.proofs.HeightLaws.{among_front, among_behind, measures_as, both_measured, higher_within}
use Rattle.erl_parser_tokens.proofs.Then.{Behind, behind_token, behind_part, behind_behind, Right, right_ok, right_outside, right_behind, right_then, right_next, right_case, right_if, IsRead, Again, again_ok, again_from, again_step, again_none, again_true, again_false, IsPart, IsDeep, again_read}
use Rattle.erl_parser_tokens.proofs.TokenLaws.{IsMarkNext, mark-takes, expect_mark, expect_mark-again}
use Rattle.erl_parser_exprs.proofs.Levels.{IsLevel}
use Rattle.erl_parser_exprs.proofs.Endings.{EndsBody}
use Rattle.erl_parser_tokens.proofs.Endings.{mark-none}
use Rattle.erl_parser_patterns.proofs.PatternEnds.{ends_pattern}
use Rattle.erl_parser_exprs.proofs.PatternFirst.{pattern-no_class, pattern-class, class-found, class-pattern}
use Rattle.erl_parser_exprs.proofs.ItemLaws.{two_parts, parts_behind, deeper_in}
use Rattle.erl_parser_exprs.proofs.ClauseLaws.{behind_pieces, case_tokens, case_deep, case_read, behind-ends_pattern, behind_patterns-right, behind_patterns-again, case_clause-right, case_clause-again}

thrown_tokens : (c : Node ClauseKind) → catch_tokens (node c.place [] (catch_of None c)) ≡ case_clause_tokens c
thrown_tokens c = catch_shown-catch_of None c [] ∙ append-nil (case_clause_tokens c)

caught_tokens : (p : Node PatternKind) (m : Place) (c : Node ClauseKind) → catch_tokens (node p.place (m ∷ []) (catch_of (Some p) c)) ≡ pattern_tokens p ++ at (T.Mark (codes ":")) m ∷ case_clause_tokens c
caught_tokens p m c = catch_shown-catch_of (Some p) c (m ∷ []) ∙ ap (λ l. pattern_tokens p ++ at (T.Mark (codes ":")) m ∷ l) (append-nil (case_clause_tokens c))

-- ---- what is read is right

thrown_read : (levels : ℕ) (ts : List Placed) (c : Measured (Node ClauseKind) × List Placed) → IsRead IsCaseClause case_clause_tokens clause_deep levels ts c → IsRead IsCatch catch_tokens catch_deep levels ts (measured (node c.0.tree.place [] (catch_of None c.0.tree)) c.0.height, c.1)
thrown_read levels ts c h = record {
  formed = thrown c.0.tree h.formed;
  takes = h.takes ∙ ap (λ l. l ++ c.1) (sym (thrown_tokens c.0.tree));
  measures = measures_as (catch_kind_deep-catch_of None c.0.tree) h.measures;
  within = h.within;
}

caught_read : (levels : ℕ) (ts : List Placed) (c : Measured (Node PatternKind) × List Placed) (d : Place × List Placed) (e : Measured (Node ClauseKind) × List Placed) → IsRead IsPattern pattern_tokens pattern_deep levels ts c → IsClass c.0.tree → IsMarkNext (codes ":") c.1 d → IsRead IsCaseClause case_clause_tokens clause_deep levels d.1 e
    → IsRead IsCatch catch_tokens catch_deep levels ts (measured (node c.0.tree.place (d.0 ∷ []) (catch_of (Some c.0.tree) e.0.tree)) (higher c.0.height e.0.height), e.1)
caught_read levels ts c d e h i m g = record {
  formed = of_class c.0.tree d.0 e.0.tree i g.formed;
  takes = two_parts _ (pattern_tokens c.0.tree) (case_clause_tokens e.0.tree) ts c.1 d.1 e.1 _ (caught_tokens c.0.tree d.0 e.0.tree) h.takes m g.takes;
  measures = measures_as (catch_kind_deep-catch_of (Some c.0.tree) e.0.tree) (both_measured h.measures g.measures);
  within = higher_within c.0.height e.0.height levels h.within g.within;
}

-- a second colon stands behind a class and a pattern
trace_stands : (levels : ℕ) (ts : List Placed) (c : Measured (Node PatternKind) × List Placed) (d : Place × List Placed) (q : Measured (Node PatternKind) × List Placed) (m : Place × List Placed) → IsRead IsPattern pattern_tokens pattern_deep levels ts c → IsClass c.0.tree → IsMarkNext (codes ":") c.1 d → IsRead IsPattern pattern_tokens pattern_deep levels d.1 q → IsMarkNext (codes ":") q.1 m
    → HasOutside ts m.0 (codes "stack trace")
trace_stands levels ts c d q m h i k g e = record {
  before = pattern_tokens c.0.tree ++ at (T.Mark (codes ":")) d.0 ∷ pattern_tokens q.0.tree;
  rest = at (T.Mark (codes ":")) m.0 ∷ m.1;
  split = two_parts _ (pattern_tokens c.0.tree) (pattern_tokens q.0.tree) ts c.1 d.1 (at (T.Mark (codes ":")) m.0 ∷ m.1) _ refl h.takes k (g.takes ∙ ap (λ l. pattern_tokens q.0.tree ++ l) e);
  stands = stack_trace c.0.tree q.0.tree d.0 m.0 [] m.1 i g.formed;
}

-- a clause with a class is read rightly, where a class and a colon come next
pub caught-right : (levels : ℕ) (l : Level) → IsLevel levels l → (ts : List Placed) → class_next ts ≡ true → Right (IsRead IsCatch catch_tokens catch_deep levels ts) ts (read_caught l ts)
unfolding read_caught
caught-right levels l L ts n = right_then (L.pattern_right ts) λ c h. right_next (behind_part (pattern_tokens c.0.tree) h.takes) (expect_mark (codes ":") c.1) λ d m.
    let b : Behind ts d.1 = behind_behind (behind_part (pattern_tokens c.0.tree) h.takes) (behind_token m) in
    right_next b (L.pattern_right d.1) λ p g.
    let a : Behind ts p.1 = behind_behind b (behind_part (pattern_tokens p.0.tree) g.takes) in
    let i : IsClass c.0.tree = pattern-class c.0.tree c.1 h.formed (sym (ap class_next h.takes) ∙ n) in
    right_case
    (λ e. right_next a (behind_patterns-right levels l L p.0.tree.place [] (p.0.tree ∷ []) p.0.height p.1) λ q r.
    right_ok (caught_read levels ts c d q h i m (case_read levels d.1 p q g r)))
    (λ t e. right_outside (trace_stands levels ts c d p t h i m g (mark-takes (codes ":") p.1 t e)))

-- a clause of a `catch` part is read rightly
pub catch-right : (levels : ℕ) (l : Level) → IsLevel levels l → (ts : List Placed) → Right (IsRead IsCatch catch_tokens catch_deep levels ts) ts (read_catch l ts)
unfolding read_catch
catch-right levels l L ts = right_if
    (λ n. caught-right levels l L ts n)
    (λ n. right_then (case_clause-right levels l L ts) λ c h. right_ok (thrown_read levels ts c h))

-- ---- what is well formed is read again

-- what follows the pattern of a clause begins with another token than a colon
behind_first : (w : Option Guard) (ws : List Place) (a : Place) (ms : List Place) (items : List (Node ItemKind)) (rest : List Placed) → IsWhen w ws → (u : Placed) × (us : List Placed) × (fill (behind_pieces w items) (ws ++ a ∷ ms) ++ rest ≡ u ∷ us) × (is_mark (codes ":") u.token ≡ false)
behind_first _ _ a ms items rest no_guard = (at (T.Mark (codes "->")) a, _, refl, refl)
behind_first _ _ a ms items rest (when_guard w g i) = (at (T.Word (codes "when")) w, _, refl, refl)

no_colon : (w : Option Guard) (ws : List Place) (a : Place) (ms : List Place) (items : List (Node ItemKind)) (rest : List Placed) → IsWhen w ws → mark (codes ":") (fill (behind_pieces w items) (ws ++ a ∷ ms) ++ rest) ≡ None
no_colon w ws a ms items rest i = let f = behind_first w ws a ms items rest i in ap (mark (codes ":")) f.2 ∙ mark-none (codes ":") f.0.token f.0.place f.1 f.3

-- no class and no colon stands where a clause of a `case` stands
case-no_class : (c : Node ClauseKind) (rest : List Placed) → IsCaseClause c → class_next (case_clause_tokens c ++ rest) ≡ false
case-no_class _ rest (case_clause p w a ws ms i is x y g f) =
    let u = behind_first w ws a ms (i ∷ is) rest y in
    ap (λ l. class_next (l ++ rest)) (case_tokens p w (i ∷ is) (ws ++ a ∷ ms)) ∙ (ap class_next (append_assoc (pattern_tokens p) (fill (behind_pieces w (i ∷ is)) (ws ++ a ∷ ms)) rest ∙ ap (λ l. pattern_tokens p ++ l) u.2) ∙ pattern-no_class p u.0 u.1 x u.3)

caught-again : (levels : ℕ) (l : Level) → IsLevel levels l → (p : Node PatternKind) (m : Place) (c : Node ClauseKind) (rest : List Placed) → IsClass p → IsCaseClause c → EndsBody rest
    → Again (IsPart (node p.place (m ∷ []) (catch_of (Some p) c)) rest) (IsDeep catch_deep levels (node p.place (m ∷ []) (catch_of (Some p) c))) (read_caught l (pattern_tokens p ++ at (T.Mark (codes ":")) m ∷ (case_clause_tokens c ++ rest)))
unfolding read_caught
caught-again levels l L p m _ rest x (case_clause q w a ws ms i is y z g f) e =
    let ns : List Place = ws ++ a ∷ ms in
    let c : Node ClauseKind = node q.place ns (clause_of (q ∷ []) w (i ∷ is)) in
    let behind : List Placed = fill (behind_pieces w (i ∷ is)) ns ++ rest in
    let tokens : case_clause_tokens c ++ rest ≡ pattern_tokens q ++ behind = ap (λ l2. l2 ++ rest) (case_tokens q w (i ∷ is) ns) ∙ append_assoc (pattern_tokens q) (fill (behind_pieces w (i ∷ is)) ns) rest in
    again_from (ap (λ l2. read_caught l (pattern_tokens p ++ at (T.Mark (codes ":")) m ∷ l2)) tokens)
    (again_read _ (L.pattern_again p _ (class-pattern x) (ends_pattern (T.Mark (codes ":")) m (pattern_tokens q ++ behind) refl refl refl)) (λ r d. deeper_in r (catch_kind_deep-catch_of (Some p) c levels) (among_front r (pattern_deep p levels) _ d)) λ h.
    again_step _ (expect_mark-again (codes ":") m (pattern_tokens q ++ behind))
    (again_read _ (L.pattern_again q behind y (behind-ends_pattern w ws a ms (i ∷ is) rest z)) (λ r d. deeper_in r (catch_kind_deep-catch_of (Some p) c levels) (among_behind r (pattern_deep p levels) _ (deeper_in r (case_deep q w (i ∷ is) ns levels) (among_front r (pattern_deep q levels) _ d)))) λ j.
    again_none _ (no_colon w ws a ms (i ∷ is) rest z)
    (again_read _ (behind_patterns-again levels l L q.place [] (q ∷ []) j w ws a ms i is rest z g f e) (λ r d. deeper_in r (catch_kind_deep-catch_of (Some p) c levels) (among_behind r (pattern_deep p levels) _ (deeper_in r (case_deep q w (i ∷ is) ns levels) (among_behind r (pattern_deep q levels) _ d)))) λ k. again_ok (higher h k, refl))))

-- a clause of a `catch` part is read again
pub catch-again : (levels : ℕ) (l : Level) → IsLevel levels l → (c : Node CatchKind) (rest : List Placed) → IsCatch c → EndsBody rest → Again (IsPart c rest) (IsDeep catch_deep levels c) (read_catch l (catch_tokens c ++ rest))
unfolding read_catch
catch-again levels l L _ rest (thrown c x) e = again_from (ap (λ ts. read_catch l (ts ++ rest)) (thrown_tokens c))
    (again_false _ (case-no_class c rest x) (again_read _ (case_clause-again levels l L c rest x e) (λ q d. deeper_in q (catch_kind_deep-catch_of None c levels) d) λ h. again_ok (h, refl)))
catch-again levels l L _ rest (of_class p m c x y) e = again_from (ap (read_catch l) (parts_behind _ (pattern_tokens p) (case_clause_tokens c) rest _ (caught_tokens p m c)))
    (again_true _ (class-found p m (case_clause_tokens c ++ rest) x) (caught-again levels l L p m c rest x y e))
