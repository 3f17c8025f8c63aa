-- The tokens of a flat module, which are those that it has in the grammar of all modules.
-- This part has specs of one clause over integers, plain atoms, ranges, types without arguments, parentheses and unions, and functions of one clause without a guard, whose parameters are variables and whose body is one expression of integers, atoms, variables, parentheses, `+`, `-`, `*` and calls. Other forms have no tokens here. A head may name a variable twice, as the grammar has it; such a function asks for equal arguments, and its module isn't flat.
-- A word that ends in `_layer` says something of one level of a tree.
use Rattle.std.specs.Prelude.{ℕ, List, [], ◌∷◌, ◌++◌, map, Option, Some, None, codes}
use Rattle.erl_tree.specs.declared.token.Place.{Place}
use Rattle.erl_tree.specs.declared.token.Placed.{Placed}
use Rattle.erl_tree.specs.declared.token.Node.{Node}
use Rattle.erl_tree.specs.declared.token.Token.{Token}
use Rattle.erl_tree.specs.declared.token.Token.TheVariants as T
use Rattle.erl_tree.specs.declared.pattern.LiteralKind.{LiteralKind}
use Rattle.erl_tree.specs.declared.pattern.LiteralKind.TheVariants as L
use Rattle.erl_tree.specs.declared.pattern.PatternKind.{PatternKind, out-PatternKind}
use Rattle.erl_tree.specs.declared.pattern.PatternKind.TheOpen as P
use Rattle.erl_tree.specs.declared.type_expr.TypeKind.{TypeKind, fold-TypeKind}
use Rattle.erl_tree.specs.declared.type_expr.TypeKind.TheOpen as Y
use Rattle.erl_tree.specs.declared.expr.BinaryOp.{BinaryOp}
use Rattle.erl_tree.specs.declared.expr.BinaryOp.TheVariants.{Add, Sub, Mul}
use Rattle.erl_tree.specs.declared.expr.ExprKind.{ExprKind, fold-ExprKind}
use Rattle.erl_tree.specs.declared.expr.ItemKind.{ItemKind, out-ItemKind}
use Rattle.erl_tree.specs.declared.expr.ClauseKind.{ClauseKind, out-ClauseKind}
use Rattle.erl_tree.specs.declared.expr.QualifierKind.{QualifierKind}
use Rattle.erl_tree.specs.declared.expr.AssocKind.{AssocKind}
use Rattle.erl_tree.specs.declared.expr.CatchKind.{CatchKind}
use Rattle.erl_tree.specs.declared.expr.ExprKind.TheOpen as E
use Rattle.erl_tree.specs.declared.form.SpecKind.{SpecKind}
use Rattle.erl_tree.specs.declared.form.SpecClauseKind.{SpecClauseKind}
use Rattle.erl_tree.specs.declared.form.Function.{Function}
use Rattle.erl_tree.specs.declared.form.TreeForm.{TreeForm}
use Rattle.erl_tree.specs.declared.form.TreeForm.TheVariants as F
use Rattle.erl_tree.specs.declared.form.Module.{Module}

-- ---- placed tokens

-- a token at a place
abbrev pub at : Token → Place → Placed
at t p = record { token = t; place = p }

-- an atom at a place
abbrev pub atom : List ℕ → Place → Placed
atom name p = at (T.Atom name) p

-- punctuation at a place
abbrev pub mark : List ℕ → Place → Placed
mark text p = at (T.Mark text) p

-- items with a comma between them, a closing parenthesis and an arrow, at these marks, and what follows
abbrev pub params_tokens : List (List Placed) → List Place → List Placed → List Placed
params_tokens [] (c ∷ a ∷ []) rest = mark (codes ")") c ∷ mark (codes "->") a ∷ rest
params_tokens (x ∷ []) (c ∷ a ∷ []) rest = x ++ mark (codes ")") c ∷ mark (codes "->") a ∷ rest
params_tokens (x ∷ y ∷ ys) (m ∷ ms) rest = x ++ mark (codes ",") m ∷ params_tokens (y ∷ ys) ms rest
params_tokens _ _ rest = []

-- items with a comma between them and a closing parenthesis behind them, at these marks
abbrev pub arguments_tokens : List (List Placed) → List Place → List Placed
arguments_tokens [] (c ∷ []) = mark (codes ")") c ∷ []
arguments_tokens (x ∷ []) (c ∷ []) = x ++ mark (codes ")") c ∷ []
arguments_tokens (x ∷ y ∷ ys) (m ∷ ms) = x ++ mark (codes ",") m ∷ arguments_tokens (y ∷ ys) ms
arguments_tokens _ _ = []

-- ---- the tokens of a tree

-- the tokens of what stands in a node, at the node's marks
abbrev pub Shown : Type 0
Shown = List Place → List Placed

-- the tokens of a node
abbrev pub shown : Node Shown → List Placed
shown n = n.kind n.marks

-- the tokens of one level of a literal: `1`, `-1`
abbrev pub literal_layer : LiteralKind → List Place → List Placed
literal_layer (L.Int n) (p ∷ []) = at (T.Int n) p ∷ []
literal_layer (L.NegInt n) (h ∷ p ∷ []) = mark (codes "-") h ∷ at (T.Int n) p ∷ []
literal_layer _ _ = []

-- the tokens of a literal
abbrev pub literal_tokens : Node LiteralKind → List Placed
literal_tokens l = literal_layer l.kind l.marks

-- the tokens of one level of a type: `a`, `1`, `-1`, `(T)`, `T | U`, `1..2`, `integer()`
abbrev pub type_layer : Y.TypeKind-F Shown (Unit {0}) → Shown
type_layer (Y.Atom a) (p ∷ []) = atom a p ∷ []
type_layer (Y.Int n) (p ∷ []) = at (T.Int n) p ∷ []
type_layer (Y.NegInt n) (h ∷ p ∷ []) = mark (codes "-") h ∷ at (T.Int n) p ∷ []
type_layer (Y.Paren t) (o ∷ c ∷ []) = mark (codes "(") o ∷ (shown t ++ mark (codes ")") c ∷ [])
type_layer (Y.Or t u) (m ∷ []) = shown t ++ mark (codes "|") m ∷ shown u
type_layer (Y.Range low high) (m ∷ []) = literal_tokens low ++ mark (codes "..") m ∷ literal_tokens high
type_layer (Y.Use None name []) (p ∷ o ∷ c ∷ []) = atom name p ∷ mark (codes "(") o ∷ mark (codes ")") c ∷ []
type_layer _ _ = []

-- the tokens of what stands in a type's node
unfoldable pub type_shown : TypeKind → Shown
type_shown t = fold-TypeKind Shown (Unit {0}) type_layer (λ part. tt) t

-- the tokens of a type
abbrev pub type_tokens : Node TypeKind → List Placed
type_tokens t = type_shown t.kind t.marks

-- the tokens of one level of a pattern: `X`, `_`
abbrev pub pattern_layer : P.PatternKind-F PatternKind → List Place → List Placed
pattern_layer (P.Var x) (p ∷ []) = at (T.Var x) p ∷ []
pattern_layer _ _ = []

-- the tokens of a pattern
abbrev pub pattern_tokens : Node PatternKind → List Placed
pattern_tokens p = pattern_layer (out-PatternKind p.kind) p.marks

-- the text of an operator between two operands
abbrev pub operator_text : BinaryOp → Option (List ℕ)
operator_text Add = Some (codes "+")
operator_text Sub = Some (codes "-")
operator_text Mul = Some (codes "*")
operator_text _ = None

-- two operands with an operator between them
abbrev pub operation_tokens : Option (List ℕ) → List Placed → Place → List Placed → List Placed
operation_tokens None left m right = []
operation_tokens (Some text) left m right = left ++ mark text m ∷ right

-- the tokens of one level of an expression: `1`, `a`, `X`, `(E)`, `E + E`, `f(E, ..)`
abbrev pub expr_layer : E.ExprKind-F Shown (Unit {0}) (Unit {0}) (Unit {0}) (Unit {0}) (Unit {0}) → Shown
expr_layer (E.Int n) (p ∷ []) = at (T.Int n) p ∷ []
expr_layer (E.Atom a) (p ∷ []) = atom a p ∷ []
expr_layer (E.Var x) (p ∷ []) = at (T.Var x) p ∷ []
expr_layer (E.Paren e) (o ∷ c ∷ []) = mark (codes "(") o ∷ (shown e ++ mark (codes ")") c ∷ [])
expr_layer (E.Binary op a b) (m ∷ []) = operation_tokens (operator_text op) (shown a) m (shown b)
expr_layer (E.Call None name args) (n ∷ o ∷ ms) = atom name n ∷ mark (codes "(") o ∷ arguments_tokens (map shown args) ms
expr_layer _ _ = []

-- the tokens of what stands in an expression's node
unfoldable pub expr_shown : ExprKind → Shown
expr_shown e = fold-ExprKind Shown (Unit {0}) (Unit {0}) (Unit {0}) (Unit {0}) (Unit {0}) expr_layer (λ i. tt) (λ q. tt) (λ a. tt) (λ c. tt) (λ c. tt) e

-- the tokens of an expression
abbrev pub expr_tokens : Node ExprKind → List Placed
expr_tokens e = expr_shown e.kind e.marks

-- the tokens of one level of an element of a body: those of the expression
abbrev pub item_layer : E.ItemKind-F ExprKind ItemKind QualifierKind AssocKind CatchKind ClauseKind → List Place → List Placed
item_layer (E.Value e) [] = expr_tokens e
item_layer _ _ = []

-- the tokens of an element of a body
abbrev pub item_tokens : Node ItemKind → List Placed
item_tokens i = item_layer (out-ItemKind i.kind) i.marks

-- a body of one element
abbrev pub body_tokens : List (Node ItemKind) → List Placed
body_tokens (i ∷ []) = item_tokens i
body_tokens _ = []

-- the tokens of one level of a function's clause: `name(P, ..) -> E`
abbrev pub clause_layer : List ℕ → E.ClauseKind-F ExprKind ItemKind QualifierKind AssocKind CatchKind ClauseKind → List Place → List Placed
clause_layer name c (n ∷ o ∷ ms) = atom name n ∷ mark (codes "(") o ∷ params_tokens (map pattern_tokens c.patterns) ms (body_tokens c.body)
clause_layer name c _ = []

-- the tokens of a function's clause
abbrev pub clause_tokens : List ℕ → Node ClauseKind → List Placed
clause_tokens name c = clause_layer name (out-ClauseKind c.kind) c.marks

-- a clause, and a dot
abbrev pub clauses_tokens : List ℕ → List (Node ClauseKind) → List Place → List Placed
clauses_tokens name (c ∷ []) (d ∷ []) = clause_tokens name c ++ at T.Dot d ∷ []
clauses_tokens name _ _ = []

-- the tokens of a function
abbrev pub function_tokens : Function → List Placed
function_tokens f = clauses_tokens f.name f.clauses f.marks

-- the tokens of one level of a spec's clause: `(T, ..) -> T`
abbrev pub spec_clause_layer : SpecClauseKind → List Place → List Placed
spec_clause_layer c (o ∷ ms) = mark (codes "(") o ∷ params_tokens (map type_tokens c.params) ms (type_tokens c.result)
spec_clause_layer c _ = []

-- the tokens of a spec's clause
abbrev pub spec_clause_tokens : Node SpecClauseKind → List Placed
spec_clause_tokens c = spec_clause_layer c.kind c.marks

-- the tokens of a spec, by its name and clauses: `-spec name(T, ..) -> T.`
abbrev pub spec_layer : List ℕ → List (Node SpecClauseKind) → List Place → List Placed
spec_layer name (c ∷ []) (h ∷ s ∷ n ∷ d ∷ []) = mark (codes "-") h ∷ atom (codes "spec") s ∷ atom name n ∷ (spec_clause_tokens c ++ at T.Dot d ∷ [])
spec_layer name _ _ = []

-- the tokens of a spec
abbrev pub spec_tokens : Node SpecKind → List Placed
spec_tokens s = spec_layer s.kind.name s.kind.clauses s.marks

-- the tokens of a form
abbrev pub form_tokens : TreeForm → List Placed
form_tokens (F.Spec s) = spec_tokens s
form_tokens (F.Function f) = function_tokens f
form_tokens _ = []

-- the tokens of forms in turn
abbrev pub forms_tokens : List TreeForm → List Placed
forms_tokens [] = []
forms_tokens (f ∷ fs) = form_tokens f ++ forms_tokens fs

-- the tokens of a module, by its name and forms: `-module(name).`, the forms, and the end
abbrev pub module_layer : List ℕ → List TreeForm → List Place → List Placed
module_layer name forms (h ∷ m ∷ o ∷ n ∷ c ∷ d ∷ e ∷ []) =
    mark (codes "-") h ∷ atom (codes "module") m ∷ mark (codes "(") o ∷ atom name n ∷ mark (codes ")") c ∷ at T.Dot d ∷ (forms_tokens forms ++ at T.End e ∷ [])
module_layer name forms _ = []

-- the tokens of a module
unfoldable pub tokens_of : Module → List Placed
tokens_of m = module_layer m.name m.forms m.marks
