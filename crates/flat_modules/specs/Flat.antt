-- Which modules are flat: which kinds of nodes stand where in their trees. Their forms are specs and functions of one clause, over the types and expressions below. Nothing is said here of places, of marks and of how operators group.
use Rattle.std.specs.Prelude.{List, [], ◌∷◌, Bool, true, false, ◌&&◌, is_none}
use Rattle.std.specs.List.{list_all}
use Rattle.erl_tree.specs.declared.token.Node.{Node}
use Rattle.erl_tree.specs.declared.pattern.LiteralKind.{LiteralKind}
use Rattle.erl_tree.specs.declared.pattern.LiteralKind.TheVariants as L
use Rattle.erl_tree.specs.declared.pattern.PatternKind.{PatternKind, out-PatternKind}
use Rattle.erl_tree.specs.declared.pattern.PatternKind.TheOpen as P
use Rattle.erl_tree.specs.declared.type_expr.TypeKind.{TypeKind, fold-TypeKind}
use Rattle.erl_tree.specs.declared.type_expr.TypeKind.TheOpen as Y
use Rattle.erl_tree.specs.declared.expr.BinaryOp.{BinaryOp}
use Rattle.erl_tree.specs.declared.expr.BinaryOp.TheVariants.{Add, Sub, Mul}
use Rattle.erl_tree.specs.declared.expr.ExprKind.{ExprKind, fold-ExprKind}
use Rattle.erl_tree.specs.declared.expr.ItemKind.{ItemKind, out-ItemKind}
use Rattle.erl_tree.specs.declared.expr.ClauseKind.{ClauseKind, out-ClauseKind}
use Rattle.erl_tree.specs.declared.expr.QualifierKind.{QualifierKind}
use Rattle.erl_tree.specs.declared.expr.AssocKind.{AssocKind}
use Rattle.erl_tree.specs.declared.expr.CatchKind.{CatchKind}
use Rattle.erl_tree.specs.declared.expr.ExprKind.TheOpen as E
use Rattle.erl_tree.specs.declared.form.SpecKind.{SpecKind}
use Rattle.erl_tree.specs.declared.form.SpecClauseKind.{SpecClauseKind}
use Rattle.erl_tree.specs.declared.form.Function.{Function}
use Rattle.erl_tree.specs.declared.form.TreeForm.{TreeForm}
use Rattle.erl_tree.specs.declared.form.TreeForm.TheVariants as F
use Rattle.erl_tree.specs.declared.form.Module.{Module}

-- what is known of a node
abbrev pub known : Node Bool → Bool
known n = n.kind

-- a list has one element, of which a test says true
abbrev pub is_one : {A : Type 0} → (A → Bool) → List A → Bool
is_one test (x ∷ []) = test x
is_one test _ = false

-- a list is empty
abbrev pub has_none : {A : Type 0} → List A → Bool
has_none [] = true
has_none (x ∷ xs) = false

-- ---- types

-- an end of a range: `1`, `-1`
abbrev pub is_flat_end : LiteralKind → Bool
is_flat_end (L.Int n) = true
is_flat_end (L.NegInt n) = true
is_flat_end _ = false

-- one level of a type: `a`, `1`, `-1`, `(T)`, `T | U`, `1..2`, a name without arguments as `integer()`
abbrev pub flat_type_layer : Y.TypeKind-F Bool (Unit {0}) → Bool
flat_type_layer (Y.Atom a) = true
flat_type_layer (Y.Int n) = true
flat_type_layer (Y.NegInt n) = true
flat_type_layer (Y.Paren t) = known t
flat_type_layer (Y.Or t u) = known t && known u
flat_type_layer (Y.Range low high) = is_flat_end low.kind && is_flat_end high.kind
flat_type_layer (Y.Use prefix name args) = is_none prefix && has_none args
flat_type_layer _ = false

-- what stands in a type's node
unfoldable pub is_flat_type_kind : TypeKind → Bool
is_flat_type_kind t = fold-TypeKind Bool (Unit {0}) flat_type_layer (λ part. tt) t

-- a type
abbrev pub is_flat_type : Node TypeKind → Bool
is_flat_type t = is_flat_type_kind t.kind

-- ---- expressions

-- `+`, `-`, `*`
abbrev pub is_flat_operator : BinaryOp → Bool
is_flat_operator Add = true
is_flat_operator Sub = true
is_flat_operator Mul = true
is_flat_operator _ = false

-- one level of an expression: `1`, `a`, `X`, `(E)`, `E + E`, `f(E, ..)`
abbrev pub flat_expr_layer : E.ExprKind-F Bool (Unit {0}) (Unit {0}) (Unit {0}) (Unit {0}) (Unit {0}) → Bool
flat_expr_layer (E.Int n) = true
flat_expr_layer (E.Atom a) = true
flat_expr_layer (E.Var x) = true
flat_expr_layer (E.Paren e) = known e
flat_expr_layer (E.Binary op a b) = is_flat_operator op && (known a && known b)
flat_expr_layer (E.Call prefix name args) = is_none prefix && list_all known args
flat_expr_layer _ = false

-- what stands in an expression's node
unfoldable pub is_flat_expr_kind : ExprKind → Bool
is_flat_expr_kind e = fold-ExprKind Bool (Unit {0}) (Unit {0}) (Unit {0}) (Unit {0}) (Unit {0}) flat_expr_layer (λ i. tt) (λ q. tt) (λ a. tt) (λ c. tt) (λ c. tt) e

-- an expression
abbrev pub is_flat_expr : Node ExprKind → Bool
is_flat_expr e = is_flat_expr_kind e.kind

-- ---- functions

-- one level of a pattern: `X`
abbrev pub flat_pattern_layer : P.PatternKind-F PatternKind → Bool
flat_pattern_layer (P.Var x) = true
flat_pattern_layer _ = false

-- a pattern
abbrev pub is_flat_pattern : Node PatternKind → Bool
is_flat_pattern p = flat_pattern_layer (out-PatternKind p.kind)

-- one level of an element of a body: an expression
abbrev pub flat_item_layer : E.ItemKind-F ExprKind ItemKind QualifierKind AssocKind CatchKind ClauseKind → Bool
flat_item_layer (E.Value e) = is_flat_expr e
flat_item_layer _ = false

-- an element of a body
abbrev pub is_flat_item : Node ItemKind → Bool
is_flat_item i = flat_item_layer (out-ItemKind i.kind)

-- one level of a function's clause: `name(P, ..) -> E`
abbrev pub flat_clause_layer : E.ClauseKind-F ExprKind ItemKind QualifierKind AssocKind CatchKind ClauseKind → Bool
flat_clause_layer c = is_none c.guard && (list_all is_flat_pattern c.patterns && is_one is_flat_item c.body)

-- a function's clause
abbrev pub is_flat_clause : Node ClauseKind → Bool
is_flat_clause c = flat_clause_layer (out-ClauseKind c.kind)

-- a function
abbrev pub is_flat_function : Function → Bool
is_flat_function f = is_one is_flat_clause f.clauses

-- ---- specs

-- a spec's clause: `(T, ..) -> T`
abbrev pub is_flat_spec_clause : Node SpecClauseKind → Bool
is_flat_spec_clause c = has_none c.kind.bounds && (list_all is_flat_type c.kind.params && is_flat_type c.kind.result)

-- a spec
abbrev pub is_flat_spec : Node SpecKind → Bool
is_flat_spec s = is_one is_flat_spec_clause s.kind.clauses

-- ---- modules

-- a form
abbrev pub is_flat_form : TreeForm → Bool
is_flat_form (F.Spec s) = is_flat_spec s
is_flat_form (F.Function f) = is_flat_function f
is_flat_form _ = false

-- a module
unfoldable pub is_flat : Module → Bool
is_flat m = list_all is_flat_form m.forms
