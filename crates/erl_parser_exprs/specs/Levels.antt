-- What the functions of the parser read at one level, and what they return, seen as what the readers answer.
use Rattle.std.specs.Prelude.{ℕ, ◌<◌, ◌≤◌, ◌^◌, List, [], ◌∷◌, ◌++◌, length, Option, Some, None, Bool, true, false, IfOk, codes, if◌then◌else◌}
use Rattle.std.proofs.Common.{Bor}
use Rattle.erl_tree.specs.declared.token.Place.{Place}
use Rattle.erl_tree.specs.declared.token.Placed.{Placed}
use Rattle.erl_tree.specs.declared.token.Node.{Node}
use Rattle.erl_tree.specs.declared.expr.ItemKind.{ItemKind}
use Rattle.erl_tree.specs.declared.expr.ClauseKind.{ClauseKind}
use Rattle.erl_tree.specs.declared.expr.QualifierKind.{QualifierKind}
use Rattle.erl_tree.specs.declared.expr.ExprKind.TheVariants as X
use Rattle.erl_grammar.specs.declared.head.Head.TheVariants.{Plain}
use Rattle.erl_grammar.specs.Grammar.{node, clause_of}
use Rattle.erl_parser_tokens.specs.declared.height.Measured.{Measured}
use Rattle.erl_parser_exprs.specs.declared.level.Headed.{Headed as FoundHeaded}
use Rattle.erl_parser_exprs.specs.declared.tails.Tail.{Tail as FoundTail}
use Rattle.erl_parser_exprs.specs.declared.tails.Tail.TheVariants as follows
use Rattle.erl_parser_exprs.specs.declared.clauses.Guarded.{Guarded as FoundGuarded}
use Rattle.erl_parser_exprs.specs.declared.clauses.When.{When as FoundWhen}
use Rattle.erl_parser_exprs.specs.declared.blocks.Ending.{Ending as FoundEnding}
use Rattle.erl_parser_tokens.specs.Tokens.{Answer, Gives, in_case, mark}
use Rattle.erl_parser_tokens.specs.Heights.{higher, measured}
use Rattle.erl_parser_tokens.specs.Parts.{Several, Cells, built, within}
use Rattle.erl_parser_tokens.specs.Passed.{Returned}
use Rattle.erl_parser_exprs.specs.Operations.{Expr}
use Rattle.erl_parser_exprs.specs.Expressions.{Level, level_of, expr_levels, read_expr, Headed, Tail, no_tail, map_tail, record_tail, read_map_change, read_behind_record, Guard, Guarded, completed, with_comma, with_semicolon, When, Ending}

-- the readers of what is nested at most so many levels deep
abbrev pub level_at : ℕ → Level
level_at d = level_of d (expr_levels d)

-- ---- functions that are passed

-- a function that was passed reads the expressions nested less deep than this
pub record CanRead (pre : Bor (List Placed) → ℕ → Type 0) (post : Bor (List Placed) → ℕ → Returned Expr → Type 0) (bound : ℕ) : Type 0 where
  pub fits : bound < 2 ^ 64
  pub can : (ts : Bor (List Placed)) (d : ℕ) → d < bound → pre ts d
  pub gives : (ts : Bor (List Placed)) (d : ℕ) (r : Returned Expr) → post ts d r → Gives (λ x. (x.0, x.1.now)) r (read_expr d ts.now)
  pub low : (ts : Bor (List Placed)) (d : ℕ) (r : Returned Expr) → post ts d r → IfOk r (λ x. x.0.height.depth ≤ d)
  pub shorter : (ts : Bor (List Placed)) (d : ℕ) (r : Returned Expr) → post ts d r → IfOk r (λ x. length x.1.now < length ts.now)

-- ---- what is returned

-- an expression, and what may follow it
abbrev pub headed_seen : FoundHeaded → Headed
headed_seen e = (e.expr, e.head)

-- the list with these cells
abbrev pub list_built : Place → Cells Expr → Headed
list_built o cs = (built o (o ∷ cs.marks) (X.Cells cs.items cs.tail) cs.height, Plain)

-- the comprehension of an expression with these qualifiers, by the places of its other marks
abbrev pub comprehension_built : (o : Place) → Measured Expr → (b : Place) → Several (Node QualifierKind) → (c : Place) → Headed
comprehension_built o e b qs c = (built o (o ∷ b ∷ (qs.marks ++ c ∷ [])) (X.Comp e.tree qs.items) (higher e.height qs.height), Plain)

-- what follows an expression
abbrev pub tail_seen : Option FoundTail → Tail
tail_seen None = no_tail
tail_seen (Some (follows.OfMap h o ts)) = map_tail h o ts.now
tail_seen (Some (follows.OfRecord h name n ts)) = record_tail h name.now n ts.now

-- the tokens behind what it begins with
abbrev pub tail_rest : FoundTail → List Placed
tail_rest (follows.OfMap h o ts) = ts.now
tail_rest (follows.OfRecord h name n ts) = ts.now

-- an expression with what follows it
abbrev pub read_one_tail : FoundTail → Level → ℕ → Measured Expr → Answer (Headed × List Placed)
read_one_tail (follows.OfMap h o ts) l levels e = within levels e (read_map_change l e h o ts.now)
read_one_tail (follows.OfRecord h name n ts) l levels e = within levels e (read_behind_record l e h name.now n ts.now)

-- the tests of a guard
abbrev pub guarded_seen : FoundGuarded → Guarded
guarded_seen g = record { alternatives = g.alternatives; tests = g.tests; marks = g.marks; height = g.height }

-- the mark behind a test, and whether it is a semicolon
unfoldable pub separator : List Placed → Option ((Bool × Place) × List Placed)
separator ts = in_case (mark (codes ",") ts) (in_case (mark (codes ";") ts) None (λ m. Some ((true, m.0), m.1))) (λ m. Some ((false, m.0), m.1))

-- a guard with one such mark more
abbrev pub with_separator : Guarded → Bool → Place → Guarded
with_separator g is_semicolon m = if is_semicolon then with_semicolon g m else with_comma g m

-- the guard with these tests, which begins at this place
abbrev pub guard_built : Place → Guarded → Measured Guard
guard_built p g = measured (node p g.marks (completed g)) g.height

-- a clause of an `if`, by its guard, its arrow and its body
abbrev pub if_clause_built : Measured Guard → Place → Several (Node ItemKind) → Measured (Node ClauseKind)
if_clause_built g a b = measured (node g.tree.place (a ∷ b.marks) (clause_of [] (Some g.tree) b.items)) (higher g.height b.height)

-- a guard that may be left out
abbrev pub when_seen : FoundWhen → When
when_seen w = record { guard = w.guard; marks = w.marks; height = w.height }

-- the `after` part of a `try`
abbrev pub ending_seen : FoundEnding → Ending
ending_seen e = record { items = e.items; marks = e.marks; height = e.height }
