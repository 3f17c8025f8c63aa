-- Small trees, for examples.
use Rattle.std.specs.Prelude.{ℕ, ℤ, pos, [], ◌∷◌, None, codes}
use Rattle.type_terms.specs.Keys.{Name}
use Rattle.erl_tree.specs.declared.token.Node.{Node}
use Rattle.erl_tree.specs.declared.pattern.PatternKind.TheVariants as P
use Rattle.erl_tree.specs.declared.pattern.LiteralKind.{LiteralKind}
use Rattle.erl_tree.specs.declared.pattern.LiteralKind.TheVariants as L
use Rattle.erl_tree.specs.declared.type_expr.TypeKind.{TypeKind}
use Rattle.erl_tree.specs.declared.type_expr.TypeKind.TheVariants as Y
use Rattle.erl_tree.specs.declared.expr.BinaryOp.TheVariants.{Add}
use Rattle.erl_tree.specs.declared.expr.ExprKind.{ExprKind}
use Rattle.erl_tree.specs.declared.expr.ExprKind.TheVariants as X
use Rattle.erl_tree.specs.declared.expr.ItemKind.{ItemKind}
use Rattle.erl_tree.specs.declared.expr.ItemKind.TheVariants as I
use Rattle.erl_tree.specs.declared.expr.ClauseKind.{ClauseKind, roll-ClauseKind}
use Rattle.erl_tree.specs.declared.expr.QualifierKind.{QualifierKind}
use Rattle.erl_tree.specs.declared.expr.AssocKind.{AssocKind}
use Rattle.erl_tree.specs.declared.expr.CatchKind.{CatchKind}
use Rattle.erl_tree.specs.declared.expr.ExprKind.TheOpen as E
use Rattle.erl_tree.specs.declared.form.Function.{Function}
use Rattle.erl_grammar.specs.Grammar.{node}
use Rattle.erl_tree.specs.SmallText.{place}

-- ---- expressions

-- an integer at a column
abbrev pub int_at : ℤ → ℕ → Node ExprKind
int_at n column = node (place column) (place column ∷ []) (X.Int n)

-- an atom at a column
abbrev pub atom_at : Name → ℕ → Node ExprKind
atom_at a column = node (place column) (place column ∷ []) (X.Atom a)

-- `1+2`
abbrev pub one_and_two : Node ExprKind
one_and_two = node (place 1) (place 2 ∷ []) (X.Binary Add (int_at (pos 1) 1) (int_at (pos 2) 3))

-- `1+a`
abbrev pub one_and_atom : Node ExprKind
one_and_atom = node (place 1) (place 2 ∷ []) (X.Binary Add (int_at (pos 1) 1) (atom_at (codes "a") 3))

-- ---- types

-- an integer as the end of a range, at a column
abbrev pub end_at : ℤ → ℕ → Node LiteralKind
end_at n column = node (place column) (place column ∷ []) (L.Int n)

-- `low..high`, of integers of one digit
abbrev pub range_type_of : (low high : ℤ) → Node TypeKind
range_type_of low high = node (place 1) (place 2 ∷ []) (Y.Range (end_at low 1) (end_at high 4))

-- `1..3|a`
abbrev pub range_or_atom : Node TypeKind
range_or_atom = node (place 1) (place 5 ∷ []) (Y.Or (range_type_of (pos 1) (pos 3)) (node (place 6) (place 6 ∷ []) (Y.Atom (codes "a"))))

-- ---- functions

-- `f(X)`
abbrev pub self_call : Node ExprKind
self_call = node (place 7) (place 7 ∷ place 8 ∷ place 10 ∷ []) (X.Call None (codes "f") (node (place 9) (place 9 ∷ []) (X.Var (codes "X")) ∷ []))

-- `f(X)->f(X)`
abbrev pub self_call_layer : E.ClauseKind-F ExprKind ItemKind QualifierKind AssocKind CatchKind ClauseKind
self_call_layer = record {
  patterns = node (place 3) (place 3 ∷ []) (P.Var (codes "X")) ∷ [];
  guard = None;
  body = node (place 7) [] (I.Value self_call) ∷ [];
}

-- `f(X)->f(X).`
abbrev pub calls_itself : Function
calls_itself = record {
  name = codes "f";
  place = place 1;
  marks = place 11 ∷ [];
  clauses = node (place 1) (place 1 ∷ place 2 ∷ place 4 ∷ place 5 ∷ []) (roll-ClauseKind self_call_layer) ∷ [];
}
