-- Small modules named `a` for the examples, each form on a line of its own: `-spec f(integer()) -> integer().` and `f(X) -> E.` with an expression E, and the same for a second function.
use Rattle.std.specs.Prelude.{ℕ, ◌+◌, pos, List, [], ◌∷◌, ◌++◌, None, Some, codes}
use Rattle.type_terms.specs.declared.term.Term.{Term, Ints}
use Rattle.type_terms.specs.declared.spec.FunSpec.{FunSpec}
use Rattle.type_terms.specs.Keys.{Name}
use Rattle.erl_tree.specs.declared.token.Place.{Place}
use Rattle.erl_tree.specs.declared.token.Node.{Node}
use Rattle.erl_tree.specs.declared.pattern.LiteralKind.TheVariants as L
use Rattle.erl_tree.specs.declared.pattern.PatternKind.TheVariants as P
use Rattle.erl_tree.specs.declared.type_expr.TypeKind.{TypeKind}
use Rattle.erl_tree.specs.declared.type_expr.TypeKind.TheVariants as Y
use Rattle.erl_tree.specs.declared.expr.BinaryOp.TheVariants.{Add, Sub}
use Rattle.erl_tree.specs.declared.expr.ExprKind.{ExprKind}
use Rattle.erl_tree.specs.declared.expr.ClauseKind.{ClauseKind, roll-ClauseKind}
use Rattle.erl_tree.specs.declared.expr.ExprKind.TheVariants as E
use Rattle.erl_tree.specs.declared.form.SpecKind.{SpecKind}
use Rattle.erl_tree.specs.declared.form.SpecClauseKind.{SpecClauseKind}
use Rattle.erl_tree.specs.declared.form.Function.{Function}
use Rattle.erl_tree.specs.declared.form.TreeForm.{TreeForm}
use Rattle.erl_tree.specs.declared.form.TreeForm.TheVariants as F
use Rattle.erl_tree.specs.declared.form.Module.{Module}
use Rattle.flat_modules.specs.Grammar.{node}

abbrev pub place : ℕ → ℕ → Place
place line column = record { line = line; column = column }

-- ---- types and specs

-- `integer()`
abbrev pub integer_type : (line column : ℕ) → Node TypeKind
integer_type line column = node (place line column) (place line column ∷ place line (column + 7) ∷ place line (column + 8) ∷ []) (Y.Use None (codes "integer") [])

-- `a`
abbrev pub atom_type : (line column : ℕ) → Node TypeKind
atom_type line column = node (place line column) (place line column ∷ []) (Y.Atom (codes "a"))

-- `1..3`
abbrev pub range_type : Node TypeKind
range_type = node (place 1 1) (place 1 2 ∷ []) (Y.Range (node (place 1 1) (place 1 1 ∷ []) (L.Int (pos 1))) (node (place 1 4) (place 1 4 ∷ []) (L.Int (pos 3))))

-- `(T) -> integer()`, where T ends before a column
abbrev pub small_spec_clause : (line close : ℕ) → Node TypeKind → Node SpecClauseKind
small_spec_clause line close t = node (place line 8) (place line 8 ∷ place line close ∷ place line (close + 2) ∷ []) (record { params = t ∷ []; result = integer_type line (close + 5); bounds = [] })

-- `-spec f(T) -> integer().`
abbrev pub small_spec : Name → (line close : ℕ) → Node TypeKind → Node SpecKind
small_spec name line close t = node (place line 1) (place line 1 ∷ place line 2 ∷ place line 7 ∷ place line (close + 14) ∷ []) (record { name = name; clauses = small_spec_clause line close t ∷ [] })

-- ---- functions

-- a node of one token
abbrev pub leaf : (line column : ℕ) → ExprKind → Node ExprKind
leaf line column e = node (place line column) (place line column ∷ []) e

-- `f(X) -> E`
abbrev pub small_clause : (line : ℕ) (variable : Name) → Node ExprKind → Node ClauseKind
small_clause line variable e = node (place line 1) (place line 1 ∷ place line 2 ∷ place line 4 ∷ place line 6 ∷ []) (roll-ClauseKind (record { patterns = node (place line 3) (place line 3 ∷ []) (P.Var variable) ∷ []; guard = None; body = node e.place [] (E.Value e) ∷ [] }))

-- `f(X) -> E.`
abbrev pub small_function : Name → (line dot : ℕ) (variable : Name) → Node ExprKind → Function
small_function name line dot variable e = record { name = name; place = place line 1; marks = place line dot ∷ []; clauses = small_clause line variable e ∷ [] }

-- ---- modules

-- `-spec f(integer()) -> integer().` and `f(X) -> E.`
abbrev pub first_forms : (dot : ℕ) → Node ExprKind → List TreeForm
first_forms dot e = F.Spec (small_spec (codes "f") 2 18 (integer_type 2 9)) ∷ F.Function (small_function (codes "f") 3 dot (codes "X") e) ∷ []

-- `-module(a).` and forms, with the end on this line
abbrev pub with_forms : (last : ℕ) → List TreeForm → Module
with_forms last forms = record { name = codes "a"; marks = place 1 1 ∷ place 1 2 ∷ place 1 8 ∷ place 1 9 ∷ place 1 10 ∷ place 1 11 ∷ place last 1 ∷ []; forms = forms }

-- a module of one function
abbrev pub small_module : (dot : ℕ) → Node ExprKind → Module
small_module dot e = with_forms 4 (first_forms dot e)

-- `f(X) -> X.`
abbrev pub identity : Module
identity = small_module 10 (leaf 3 9 (E.Var (codes "X")))

-- `f(X) -> a.`
abbrev pub constant : Module
constant = small_module 10 (leaf 3 9 (E.Atom (codes "a")))

-- `f(X) -> Y.`
abbrev pub unbound : Module
unbound = small_module 10 (leaf 3 9 (E.Var (codes "Y")))

-- `X - 1`
abbrev pub one_less : Node ExprKind
one_less = node (place 3 11) (place 3 13 ∷ []) (E.Binary Sub (leaf 3 11 (E.Var (codes "X"))) (leaf 3 15 (E.Int (pos 1))))

-- `f(X - 1)`
abbrev pub recursive_call : Node ExprKind
recursive_call = node (place 3 9) (place 3 9 ∷ place 3 10 ∷ place 3 16 ∷ []) (E.Call None (codes "f") (one_less ∷ []))

-- `f(X) -> f(X - 1).`
abbrev pub recursive : Module
recursive = small_module 17 recursive_call

-- `f(E)`, with an argument of one token
abbrev pub small_call : (column : ℕ) → ExprKind → Node ExprKind
small_call column e = node (place 5 column) (place 5 column ∷ place 5 (column + 1) ∷ place 5 (column + 3) ∷ []) (E.Call None (codes "f") (leaf 5 (column + 2) e ∷ []))

-- `f(1) + f(Y)`
abbrev pub two_calls : Node ExprKind
two_calls = node (place 5 9) (place 5 14 ∷ []) (E.Binary Add (small_call 9 (E.Int (pos 1))) (small_call 16 (E.Var (codes "Y"))))

-- `f(X) -> X.`, and with `-spec g(a) -> integer().` the function `g(Y) -> f(1) + f(Y).`
abbrev pub second_call_wrong : Module
second_call_wrong = with_forms 6 (first_forms 10 (leaf 3 9 (E.Var (codes "X"))) ++ F.Spec (small_spec (codes "g") 4 10 (atom_type 4 9)) ∷ F.Function (small_function (codes "g") 5 20 (codes "Y") two_calls) ∷ [])

-- ---- terms

abbrev pub integers : Term
integers = Ints None None

-- the term of `1..3`
abbrev pub one_to_three : Term
one_to_three = Ints (Some (pos 1)) (Some (pos 3))

-- the spec of a function from this type to `integer()`
abbrev pub spec_to_integers : Name → Term → FunSpec
spec_to_integers name t = record { name = name; arity = 1; vars = 0; clauses = record { params = t ∷ []; result = integers } ∷ [] }

-- the specs of a module of one function
abbrev pub small_specs : List FunSpec
small_specs = spec_to_integers (codes "f") integers ∷ []
