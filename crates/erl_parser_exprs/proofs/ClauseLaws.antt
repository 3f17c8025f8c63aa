-- Clauses: what is read is right, and what is well formed is read again.
use Rattle.std.proofs.Common.{◌≡◌, ℕ, ◌≤◌, List, [], ◌∷◌, ◌++◌, map, refl, ap, sym, ◌∙◌, subst, append_assoc, append-nil}
use Rattle.std.specs.Prelude.{Option, Some, codes}
use Rattle.erl_tree.specs.Lists.{Among}
use Rattle.erl_tree.specs.declared.token.Place.{Place}
use Rattle.erl_tree.specs.declared.token.Placed.{Placed}
use Rattle.erl_tree.specs.declared.token.Node.{Node}
use Rattle.erl_tree.specs.declared.token.Token.TheVariants as T
use Rattle.erl_tree.specs.declared.pattern.PatternKind.{PatternKind}
use Rattle.erl_tree.specs.declared.expr.ExprKind.{ExprKind}
use Rattle.erl_tree.specs.declared.expr.ItemKind.{ItemKind}
use Rattle.erl_tree.specs.declared.expr.ClauseKind.{ClauseKind}
use Rattle.erl_grammar.specs.Pieces.{at, Piece, own, fill}
use Rattle.erl_grammar.specs.Spelling.{pattern_tokens, expr_tokens, item_tokens, expr_guard_tokens, optional_guard, when_pieces, body_pieces, case_clause_tokens, if_clause_tokens, fun_clause_tokens}
use Rattle.erl_grammar.specs.Nesting.{Deep, deep_all, deep_optional, deep_guard, pattern_deep, expr_deep, item_deep, clause_deep}
use Rattle.erl_grammar.specs.Grammar.{node, AreSeparators, IsPattern, IsItem, IsGuard, IsWhen, no_guard, when_guard, clause_of, IsCaseClause, case_clause, IsIfClause, if_clause, IsFunClause, fun_clause}
use Rattle.erl_grammar.proofs.SpellingLaws.{case_clause-tokens, if_clause-tokens, fun_clause-tokens}
use Rattle.erl_grammar.proofs.NestingLaws.{clause_kind_deep-clause_of}
use Rattle.erl_parser_tokens.specs.declared.height.Height.{Height}
use Rattle.erl_parser_tokens.specs.declared.height.Measured.{Measured}
use Rattle.erl_parser_tokens.specs.Heights.{higher, measured}
use Rattle.erl_parser_tokens.specs.Tokens.{is_bit_operator}
use Rattle.erl_parser_tokens.specs.Parts.{Several}
use Rattle.erl_parser_exprs.specs.Expressions.{Level, Guard, When, read_behind_patterns, clause_built, read_case_clause, read_if_clause, read_fun_clause}
use Rattle.erl_parser_tokens.proofs.Right.{Measures}
use Rattle.erl_parser_tokens.proofs.HeightLaws.{among_front, among_behind, measures_as, both_measured, higher_within}
use Rattle.erl_parser_tokens.proofs.Then.{behind_token, behind_part, behind_behind, Right, right_ok, right_as, right_behind, right_then, right_next, IsRead, Again, again_ok, again_as, again_from, again_step, IsPart, IsDeep, again_read}
use Rattle.erl_parser_tokens.proofs.TokenLaws.{IsMarkNext, expect_mark, expect_mark-again}
use Rattle.erl_parser_tokens.proofs.PartLaws.{listed, fill-listed, AreRead, again_these}
use Rattle.erl_parser_patterns.proofs.PatternEnds.{EndsPattern, ends_pattern}
use Rattle.erl_parser_exprs.proofs.Levels.{IsLevel}
use Rattle.erl_parser_exprs.proofs.Endings.{EndsBody, arrow-ends_guard, arrow-ends_when}
use Rattle.erl_parser_exprs.proofs.ItemLaws.{two_parts, parts_behind, deeper_in}
use Rattle.erl_parser_exprs.proofs.BodyLaws.{body-right, body-again}
use Rattle.erl_parser_tokens.proofs.ParameterLaws.{ParametersRead}
use Rattle.erl_parser_exprs.proofs.ParameterLaws.{patterns-right, patterns-again}
use Rattle.erl_parser_exprs.proofs.GuardedLaws.{guard-right, guard-again, WhenRead, again_when, when-right, when-again}

-- the text of what follows the patterns of a clause
abbrev pub behind_pieces : Option Guard → List (Node ItemKind) → List Piece
behind_pieces w items = when_pieces (optional_guard expr_tokens w) ++ body_pieces (map item_tokens items)

-- the places of its nodes that are nested too deep
abbrev pub behind_deep : Option Guard → List (Node ItemKind) → Deep
behind_deep w items levels = deep_optional (deep_guard expr_deep) w levels ++ deep_all item_deep items levels

-- the text of a body
abbrev body_text : List (Node ItemKind) → List Place → List Placed
body_text items ms = listed item_tokens (T.Mark (codes ",")) items ms

-- the guard, the arrow and the body in turn
behind_tokens : (w : Option Guard) (ws : List Place) (a : Place) (ms : List Place) (items : List (Node ItemKind)) (rest : List Placed) → IsWhen w ws
    → fill (behind_pieces w items) (ws ++ a ∷ ms) ++ rest ≡ fill (when_pieces (optional_guard expr_tokens w)) ws ++ at (T.Mark (codes "->")) a ∷ (body_text items ms ++ rest)
behind_tokens _ _ a ms items rest no_guard = refl
behind_tokens _ _ a ms items rest (when_guard w g i) = ap (λ l. at (T.Word (codes "when")) w ∷ l) (append_assoc (expr_guard_tokens g) (at (T.Mark (codes "->")) a ∷ body_text items ms) rest ∙ ap (λ l. l ++ at (T.Mark (codes "->")) a ∷ (body_text items ms ++ rest)) (sym (append-nil (expr_guard_tokens g))))

-- a guard or none, an arrow and a body were read, behind patterns
pub record BehindRead (levels : ℕ) (p : Place) (front : List Place) (patterns : List (Node PatternKind)) (h : Height) (ts : List Placed) (q : Measured (Node ClauseKind) × List Placed) : Type 0 where
  pub guard : Option (Node (List (List (Node ExprKind))))
  pub guard_marks : List Place
  pub arrow : Place
  pub body_marks : List Place
  pub first : Node ItemKind
  pub others : List (Node ItemKind)
  pub clause : q.0.tree ≡ node p (front ++ (guard_marks ++ arrow ∷ body_marks)) (clause_of patterns guard (first ∷ others))
  pub is_when : IsWhen guard guard_marks
  pub gaps : AreSeparators (first ∷ others) body_marks
  pub formed : (i : Node ItemKind) → Among i (first ∷ others) → IsItem i
  pub takes : ts ≡ fill (behind_pieces guard (first ∷ others)) (guard_marks ++ arrow ∷ body_marks) ++ q.1
  pub measures : (f : Deep) → Measures f h → Measures (λ n. f n ++ behind_deep guard (first ∷ others) n) q.0.height
  pub within : h.depth ≤ levels → q.0.height.depth ≤ levels

behind_read : (levels : ℕ) (p : Place) (front : List Place) (patterns : List (Node PatternKind)) (h : Height) (ts : List Placed) (w : When × List Placed) (a : Place × List Placed) (b : Several (Node ItemKind) × List Placed)
    → WhenRead levels ts w → IsMarkNext (codes "->") w.1 a → AreRead IsItem item_tokens item_deep levels (codes ",") a.1 b → BehindRead levels p front patterns h ts (clause_built p front patterns h w.0 a.0 b.0, b.1)
behind_read levels p front patterns h ts w a b i e r = record {
  guard = w.0.guard;
  guard_marks = w.0.marks;
  arrow = a.0;
  body_marks = b.0.marks;
  first = r.first;
  others = r.others;
  clause = ap (λ is. node p (front ++ (w.0.marks ++ a.0 ∷ b.0.marks)) (clause_of patterns w.0.guard is)) r.items;
  is_when = i.formed;
  gaps = subst (λ is. AreSeparators is b.0.marks) r.items r.gaps;
  formed = subst (λ is. (j : Node ItemKind) → Among j is → IsItem j) r.items r.formed;
  takes = i.takes ∙ (ap (λ l. fill (when_pieces (optional_guard expr_tokens w.0.guard)) w.0.marks ++ l) (e ∙ ap (λ l. at (T.Mark (codes "->")) a.0 ∷ l) (r.takes ∙ ap (λ is. body_text is b.0.marks ++ b.1) r.items)) ∙ sym (behind_tokens w.0.guard w.0.marks a.0 b.0.marks (r.first ∷ r.others) b.1 i.formed));
  measures = λ f m. both_measured m (both_measured i.measures (subst (λ is. Measures (deep_all item_deep is) b.0.height) r.items r.measures));
  within = λ l. higher_within h (higher w.0.height b.0.height) levels l (higher_within w.0.height b.0.height levels i.within r.within);
}

-- what follows the patterns of a clause is read rightly
pub behind_patterns-right : (levels : ℕ) (l : Level) → IsLevel levels l → (p : Place) (front : List Place) (patterns : List (Node PatternKind)) (h : Height) (ts : List Placed) → Right (BehindRead levels p front patterns h ts) ts (read_behind_patterns l p front patterns h ts)
unfolding read_behind_patterns
behind_patterns-right levels l L p front patterns h ts = right_then (when-right levels l L ts) λ w i.
    right_next (behind_part _ i.takes) (expect_mark (codes "->") w.1) λ a e.
    right_next (behind_behind (behind_part _ i.takes) (behind_token e)) (body-right levels l L a.1) λ b r. right_ok (behind_read levels p front patterns h ts w a b i e r)

-- what follows the patterns of a clause is read again
pub behind_patterns-again : (levels : ℕ) (l : Level) → IsLevel levels l → (p : Place) (front : List Place) (patterns : List (Node PatternKind)) (h : Height) (w : Option Guard) (ws : List Place) (a : Place) (ms : List Place) (i : Node ItemKind) (is : List (Node ItemKind)) (rest : List Placed)
    → IsWhen w ws → AreSeparators (i ∷ is) ms → ((j : Node ItemKind) → Among j (i ∷ is) → IsItem j) → EndsBody rest
    → Again (IsPart (node p (front ++ (ws ++ a ∷ ms)) (clause_of patterns w (i ∷ is))) rest) (λ q. Among q (behind_deep w (i ∷ is) levels)) (read_behind_patterns l p front patterns h (fill (behind_pieces w (i ∷ is)) (ws ++ a ∷ ms) ++ rest))
unfolding read_behind_patterns
behind_patterns-again levels l L p front patterns h w ws a ms i is rest x g f e =
    let body : List Placed = body_text (i ∷ is) ms ++ rest in
    again_from (ap (read_behind_patterns l p front patterns h) (behind_tokens w ws a ms (i ∷ is) rest x))
    (again_when _ (when-again levels l L w ws _ x (arrow-ends_when a body)) (λ q d. among_front q (deep_optional (deep_guard expr_deep) w levels) _ d) λ j.
    again_step _ (expect_mark-again (codes "->") a body)
    (again_these _ (body-again levels l L i is ms rest f g e) (λ q d. among_behind q (deep_optional (deep_guard expr_deep) w levels) _ d) λ k. again_ok (higher h (higher j k), refl)))

-- ---- clauses of a `case`, an `of` part or a `catch` part

pub case_tokens : (p : Node PatternKind) (w : Option Guard) (items : List (Node ItemKind)) (ms : List Place) → case_clause_tokens (node p.place ms (clause_of (p ∷ []) w items)) ≡ pattern_tokens p ++ fill (behind_pieces w items) ms
case_tokens p w items ms = case_clause-tokens p.place ms (p ∷ []) w items

pub case_deep : (p : Node PatternKind) (w : Option Guard) (items : List (Node ItemKind)) (ms : List Place) (levels : ℕ) → clause_deep (node p.place ms (clause_of (p ∷ []) w items)) levels ≡ pattern_deep p levels ++ behind_deep w items levels
case_deep p w items ms levels = clause_kind_deep-clause_of (p ∷ []) w items levels ∙ ap (λ l. l ++ behind_deep w items levels) (append-nil (pattern_deep p levels))

pub case_read : (levels : ℕ) (ts : List Placed) (p : Measured (Node PatternKind) × List Placed) (q : Measured (Node ClauseKind) × List Placed) → IsRead IsPattern pattern_tokens pattern_deep levels ts p → BehindRead levels p.0.tree.place [] (p.0.tree ∷ []) p.0.height p.1 q → IsRead IsCaseClause case_clause_tokens clause_deep levels ts q
case_read levels ts p q h r =
    let ms : List Place = r.guard_marks ++ r.arrow ∷ r.body_marks in
    let items : List (Node ItemKind) = r.first ∷ r.others in
    let one : IsRead IsCaseClause case_clause_tokens clause_deep levels ts (measured (node p.0.tree.place ms (clause_of (p.0.tree ∷ []) r.guard items)) q.0.height, q.1) = record {
      formed = case_clause p.0.tree r.guard r.arrow r.guard_marks r.body_marks r.first r.others h.formed r.is_when r.gaps r.formed;
      takes = h.takes ∙ (ap (λ l. pattern_tokens p.0.tree ++ l) r.takes ∙ (sym (append_assoc (pattern_tokens p.0.tree) (fill (behind_pieces r.guard items) ms) q.1) ∙ ap (λ l. l ++ q.1) (sym (case_tokens p.0.tree r.guard items ms))));
      measures = measures_as (case_deep p.0.tree r.guard items ms) (r.measures (pattern_deep p.0.tree) h.measures);
      within = r.within h.within;
    } in
    subst (λ z. IsRead IsCaseClause case_clause_tokens clause_deep levels ts (measured z q.0.height, q.1)) (sym r.clause) one

-- a guard or an arrow may follow a pattern
pub behind-ends_pattern : (w : Option Guard) (ws : List Place) (a : Place) (ms : List Place) (items : List (Node ItemKind)) (rest : List Placed) → IsWhen w ws → EndsPattern (fill (behind_pieces w items) (ws ++ a ∷ ms) ++ rest)
unfolding is_bit_operator
behind-ends_pattern _ _ a ms items rest no_guard = ends_pattern (T.Mark (codes "->")) a _ refl refl refl
behind-ends_pattern _ _ a ms items rest (when_guard w g i) = ends_pattern (T.Word (codes "when")) w _ refl refl refl

-- a clause of a `case` is read rightly
pub case_clause-right : (levels : ℕ) (l : Level) → IsLevel levels l → (ts : List Placed) → Right (IsRead IsCaseClause case_clause_tokens clause_deep levels ts) ts (read_case_clause l ts)
unfolding read_case_clause
case_clause-right levels l L ts = right_then (L.pattern_right ts) λ p h. right_behind (behind_part (pattern_tokens p.0.tree) h.takes)
    (right_as (λ q r. case_read levels ts p q h r) (behind_patterns-right levels l L p.0.tree.place [] (p.0.tree ∷ []) p.0.height p.1))

-- a clause of a `case` is read again
pub case_clause-again : (levels : ℕ) (l : Level) → IsLevel levels l → (c : Node ClauseKind) (rest : List Placed) → IsCaseClause c → EndsBody rest → Again (IsPart c rest) (IsDeep clause_deep levels c) (read_case_clause l (case_clause_tokens c ++ rest))
unfolding read_case_clause
case_clause-again levels l L _ rest (case_clause p w a ws ms i is x y g f) e =
    let ns : List Place = ws ++ a ∷ ms in
    again_from (ap (λ ts. read_case_clause l (ts ++ rest)) (case_tokens p w (i ∷ is) ns) ∙ ap (read_case_clause l) (append_assoc (pattern_tokens p) (fill (behind_pieces w (i ∷ is)) ns) rest))
    (again_read _ (L.pattern_again p _ x (behind-ends_pattern w ws a ms (i ∷ is) rest y)) (λ q d. deeper_in q (case_deep p w (i ∷ is) ns levels) (among_front q (pattern_deep p levels) _ d)) λ h.
    again_as (λ q r. r) (λ q d. deeper_in q (case_deep p w (i ∷ is) ns levels) (among_behind q (pattern_deep p levels) _ d))
    (behind_patterns-again levels l L p.place [] (p ∷ []) h w ws a ms i is rest y g f e))

-- ---- clauses of an `if`

if_tokens : (g : Guard) (items : List (Node ItemKind)) (a : Place) (ms : List Place) → if_clause_tokens (node g.place (a ∷ ms) (clause_of [] (Some g) items)) ≡ expr_guard_tokens g ++ at (T.Mark (codes "->")) a ∷ body_text items ms
if_tokens g items a ms = if_clause-tokens g.place (a ∷ ms) [] (Some g) items

if_deep : (g : Guard) (items : List (Node ItemKind)) (ms : List Place) (levels : ℕ) → clause_deep (node g.place ms (clause_of [] (Some g) items)) levels ≡ deep_guard expr_deep g levels ++ deep_all item_deep items levels
if_deep g items ms levels = clause_kind_deep-clause_of [] (Some g) items levels

if_read : (levels : ℕ) (ts : List Placed) (g : Measured Guard × List Placed) (a : Place × List Placed) (b : Several (Node ItemKind) × List Placed) → IsRead IsGuard expr_guard_tokens (deep_guard expr_deep) levels ts g → IsMarkNext (codes "->") g.1 a → AreRead IsItem item_tokens item_deep levels (codes ",") a.1 b
    → IsRead IsIfClause if_clause_tokens clause_deep levels ts (measured (node g.0.tree.place (a.0 ∷ b.0.marks) (clause_of [] (Some g.0.tree) b.0.items)) (higher g.0.height b.0.height), b.1)
if_read levels ts g a b h e r =
    let items : List (Node ItemKind) = r.first ∷ r.others in
    let one : IsRead IsIfClause if_clause_tokens clause_deep levels ts (measured (node g.0.tree.place (a.0 ∷ b.0.marks) (clause_of [] (Some g.0.tree) items)) (higher g.0.height b.0.height), b.1) = record {
      formed = if_clause g.0.tree a.0 b.0.marks r.first r.others h.formed (subst (λ is. AreSeparators is b.0.marks) r.items r.gaps) (subst (λ is. (j : Node ItemKind) → Among j is → IsItem j) r.items r.formed);
      takes = two_parts _ (expr_guard_tokens g.0.tree) (body_text items b.0.marks) ts g.1 a.1 b.1 _ (if_tokens g.0.tree items a.0 b.0.marks) h.takes e (r.takes ∙ ap (λ is. body_text is b.0.marks ++ b.1) r.items);
      measures = measures_as (if_deep g.0.tree items (a.0 ∷ b.0.marks)) (both_measured h.measures (subst (λ is. Measures (deep_all item_deep is) b.0.height) r.items r.measures));
      within = higher_within g.0.height b.0.height levels h.within r.within;
    } in
    subst (λ is. IsRead IsIfClause if_clause_tokens clause_deep levels ts (measured (node g.0.tree.place (a.0 ∷ b.0.marks) (clause_of [] (Some g.0.tree) is)) (higher g.0.height b.0.height), b.1)) (sym r.items) one

-- a clause of an `if` is read rightly
pub if_clause-right : (levels : ℕ) (l : Level) → IsLevel levels l → (ts : List Placed) → Right (IsRead IsIfClause if_clause_tokens clause_deep levels ts) ts (read_if_clause l ts)
unfolding read_if_clause
if_clause-right levels l L ts = right_then (guard-right levels l L ts) λ g h.
    right_next (behind_part _ h.takes) (expect_mark (codes "->") g.1) λ a e.
    right_next (behind_behind (behind_part _ h.takes) (behind_token e)) (body-right levels l L a.1) λ b r. right_ok (if_read levels ts g a b h e r)

-- a clause of an `if` is read again
pub if_clause-again : (levels : ℕ) (l : Level) → IsLevel levels l → (c : Node ClauseKind) (rest : List Placed) → IsIfClause c → EndsBody rest → Again (IsPart c rest) (IsDeep clause_deep levels c) (read_if_clause l (if_clause_tokens c ++ rest))
unfolding read_if_clause
if_clause-again levels l L _ rest (if_clause g a ms i is x y f) e =
    let body : List Placed = body_text (i ∷ is) ms ++ rest in
    again_from (ap (read_if_clause l) (parts_behind _ (expr_guard_tokens g) (body_text (i ∷ is) ms) rest _ (if_tokens g (i ∷ is) a ms)))
    (again_read _ (guard-again levels l L g _ x (arrow-ends_guard a body)) (λ q d. deeper_in q (if_deep g (i ∷ is) (a ∷ ms) levels) (among_front q (deep_guard expr_deep g levels) _ d)) λ h.
    again_step _ (expect_mark-again (codes "->") a body)
    (again_these _ (body-again levels l L i is ms rest f y e) (λ q d. deeper_in q (if_deep g (i ∷ is) (a ∷ ms) levels) (among_behind q (deep_guard expr_deep g levels) _ d)) λ k. again_ok (higher h k, refl)))

-- ---- clauses of a fun

-- the text of what stands behind the opening parenthesis
fun_text : (ps : List (Node PatternKind)) (ns : List Place) (c : Place) (w : Option Guard) (items : List (Node ItemKind)) (ms : List Place) → List Placed
fun_text ps ns c w items ms = listed pattern_tokens (T.Mark (codes ",")) ps ns ++ at (T.Mark (codes ")")) c ∷ fill (behind_pieces w items) ms

fun_tokens : (o c : Place) (ps : List (Node PatternKind)) (ns : List Place) (w : Option Guard) (items : List (Node ItemKind)) (ms : List Place) → AreSeparators ps ns
    → fun_clause_tokens (node o (o ∷ (ns ++ c ∷ ms)) (clause_of ps w items)) ≡ at (T.Mark (codes "(")) o ∷ fun_text ps ns c w items ms
unfolding fun_text
fun_tokens o c ps ns w items ms g = fun_clause-tokens o (o ∷ (ns ++ c ∷ ms)) ps w items ∙ ap (λ l. at (T.Mark (codes "(")) o ∷ l) (fill-listed pattern_tokens (T.Mark (codes ",")) ps ns (own (T.Mark (codes ")")) ∷ behind_pieces w items) (c ∷ ms) g)

fun_text-behind : (ps : List (Node PatternKind)) (ns : List Place) (c : Place) (w : Option Guard) (items : List (Node ItemKind)) (ms : List Place) (rest : List Placed) → fun_text ps ns c w items ms ++ rest ≡ listed pattern_tokens (T.Mark (codes ",")) ps ns ++ at (T.Mark (codes ")")) c ∷ (fill (behind_pieces w items) ms ++ rest)
unfolding fun_text
fun_text-behind ps ns c w items ms rest = append_assoc (listed pattern_tokens (T.Mark (codes ",")) ps ns) (at (T.Mark (codes ")")) c ∷ fill (behind_pieces w items) ms) rest

fun_deep : (o : Place) (ps : List (Node PatternKind)) (w : Option Guard) (items : List (Node ItemKind)) (ms : List Place) (levels : ℕ) → clause_deep (node o ms (clause_of ps w items)) levels ≡ deep_all pattern_deep ps levels ++ behind_deep w items levels
fun_deep o ps w items ms levels = clause_kind_deep-clause_of ps w items levels

fun_read : (levels : ℕ) (ts : List Placed) (o : Place × List Placed) (s : Several (Node PatternKind) × List Placed) (q : Measured (Node ClauseKind) × List Placed) → IsMarkNext (codes "(") ts o → ParametersRead IsPattern pattern_tokens pattern_deep levels o.1 s → BehindRead levels o.0 (o.0 ∷ s.0.marks) s.0.items s.0.height s.1 q → IsRead IsFunClause fun_clause_tokens clause_deep levels ts q
fun_read levels ts o s q e h r =
    let ms : List Place = r.guard_marks ++ r.arrow ∷ r.body_marks in
    let items : List (Node ItemKind) = r.first ∷ r.others in
    let marks : (o.0 ∷ s.0.marks) ++ ms ≡ o.0 ∷ (h.between ++ h.close ∷ ms) = ap (λ l. o.0 ∷ (l ++ ms)) h.marks ∙ ap (λ l. o.0 ∷ l) (append_assoc h.between (h.close ∷ []) ms) in
    let one : IsRead IsFunClause fun_clause_tokens clause_deep levels ts (measured (node o.0 (o.0 ∷ (h.between ++ h.close ∷ ms)) (clause_of s.0.items r.guard items)) q.0.height, q.1) = record {
      formed = fun_clause o.0 h.close r.arrow s.0.items r.guard h.between r.guard_marks r.body_marks r.first r.others h.few h.gaps h.formed r.is_when r.gaps r.formed;
      takes = e ∙ (ap (λ l. at (T.Mark (codes "(")) o.0 ∷ l) (h.takes ∙ (ap (λ l. listed pattern_tokens (T.Mark (codes ",")) s.0.items h.between ++ at (T.Mark (codes ")")) h.close ∷ l) r.takes ∙ sym (fun_text-behind s.0.items h.between h.close r.guard items ms q.1))) ∙ ap (λ l. l ++ q.1) (sym (fun_tokens o.0 h.close s.0.items h.between r.guard items ms h.gaps)));
      measures = measures_as (fun_deep o.0 s.0.items r.guard items (o.0 ∷ (h.between ++ h.close ∷ ms))) (r.measures (deep_all pattern_deep s.0.items) h.measures);
      within = r.within h.within;
    } in
    subst (λ z. IsRead IsFunClause fun_clause_tokens clause_deep levels ts (measured z q.0.height, q.1)) (sym (r.clause ∙ ap (λ l. node o.0 l (clause_of s.0.items r.guard items)) marks)) one

-- a clause of a fun is read rightly
pub fun_clause-right : (levels : ℕ) (l : Level) → IsLevel levels l → (ts : List Placed) → Right (IsRead IsFunClause fun_clause_tokens clause_deep levels ts) ts (read_fun_clause l ts)
unfolding read_fun_clause
fun_clause-right levels l L ts = right_then (expect_mark (codes "(") ts) λ o e. right_next (behind_part [] e) (patterns-right levels l L o.0 o.1) λ s h.
    right_behind (behind_behind (behind_token e) (behind_behind (behind_part _ h.takes) (behind_token refl)))
    (right_as (λ q r. fun_read levels ts o s q e h r) (behind_patterns-right levels l L o.0 (o.0 ∷ s.0.marks) s.0.items s.0.height s.1))

-- a clause of a fun is read again
pub fun_clause-again : (levels : ℕ) (l : Level) → IsLevel levels l → (c : Node ClauseKind) (rest : List Placed) → IsFunClause c → EndsBody rest → Again (IsPart c rest) (IsDeep clause_deep levels c) (read_fun_clause l (fun_clause_tokens c ++ rest))
unfolding read_fun_clause
fun_clause-again levels l L _ rest (fun_clause o c a ps w ns ws ms i is n g x y k f) e =
    let bs : List Place = ws ++ a ∷ ms in
    let items : List (Node ItemKind) = i ∷ is in
    let behind : List Placed = fill (behind_pieces w items) bs ++ rest in
    let all : List Place = o ∷ (ns ++ c ∷ bs) in
    again_from (ap (λ l2. read_fun_clause l (l2 ++ rest)) (fun_tokens o c ps ns w items bs g) ∙ ap (λ l2. read_fun_clause l (at (T.Mark (codes "(")) o ∷ l2)) (fun_text-behind ps ns c w items bs rest))
    (again_step _ (expect_mark-again (codes "(") o _)
    (again_these _ (patterns-again levels l L ps ns c behind x g n) (λ q d. deeper_in q (fun_deep o ps w items all levels) (among_front q (deep_all pattern_deep ps levels) _ d)) λ h.
    again_as (λ q r. (r.0, r.1 ∙ ap (λ m. (measured (node o (o ∷ m) (clause_of ps w items)) r.0, rest)) (append_assoc ns (c ∷ []) bs))) (λ q d. deeper_in q (fun_deep o ps w items all levels) (among_behind q (deep_all pattern_deep ps levels) _ d))
    (behind_patterns-again levels l L o (o ∷ (ns ++ c ∷ [])) ps h w ws a ms i is rest y k f e)))
