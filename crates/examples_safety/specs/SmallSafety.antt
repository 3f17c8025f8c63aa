-- Small modules, specs and instances for the examples of safety. Nothing that runs looks at places or marks, so each node stands at the first place of a text and has no marks.
use Rattle.std.specs.Prelude.{ℕ, pos, List, [], ◌∷◌, None as Open, codes}
use Rattle.type_terms.specs.declared.term.Term.{Term, Ints, AnyAtom, Fun, Var}
use Rattle.type_terms.specs.declared.spec.Arrow.{Arrow}
use Rattle.type_terms.specs.declared.spec.FunSpec.{FunSpec}
use Rattle.type_terms.specs.Instances.{Instance, no_variables, variable_and}
use Rattle.type_terms.specs.Keys.{Name}
use Rattle.erl_tree.specs.declared.token.Node.{Node}
use Rattle.erl_tree.specs.declared.pattern.PatternKind.TheVariants as P
use Rattle.erl_tree.specs.declared.expr.ExprKind.{ExprKind}
use Rattle.erl_tree.specs.declared.expr.ExprKind.TheVariants as X
use Rattle.erl_tree.specs.declared.expr.ExprKind.TheOpen as E
use Rattle.erl_tree.specs.declared.expr.ItemKind.{ItemKind}
use Rattle.erl_tree.specs.declared.expr.ItemKind.TheVariants as I
use Rattle.erl_tree.specs.declared.expr.ClauseKind.{ClauseKind, roll-ClauseKind}
use Rattle.erl_tree.specs.declared.expr.QualifierKind.{QualifierKind}
use Rattle.erl_tree.specs.declared.expr.AssocKind.{AssocKind}
use Rattle.erl_tree.specs.declared.expr.CatchKind.{CatchKind}
use Rattle.erl_tree.specs.declared.form.Function.{Function}
use Rattle.erl_tree.specs.declared.form.TreeForm.TheVariants as F
use Rattle.erl_tree.specs.declared.form.Module.{Module}
use Rattle.erl_runs.specs.Value.{Value, integer, atom, closure, no_bindings}

-- ---- trees

-- a node of this kind
abbrev pub node : {K : Type 0} → K → Node K
node k = record { place = record { line = 1; column = 1 }; marks = []; kind = k }

-- `0`, `1`, `a`, and the variable with this name
abbrev pub zero_written : Node ExprKind
zero_written = node (X.Int (pos 0))

abbrev pub one_written : Node ExprKind
one_written = node (X.Int (pos 1))

abbrev pub a_written : Node ExprKind
a_written = node (X.Atom (codes "a"))

abbrev pub variable : Name → Node ExprKind
variable x = node (X.Var x)

-- what the clause `(X) -> E` holds, of a function or a fun
abbrev pub clause_layer : Name → Node ExprKind → E.ClauseKind-F ExprKind ItemKind QualifierKind AssocKind CatchKind ClauseKind
clause_layer x e = record { patterns = node (P.Var x) ∷ []; guard = Open; body = node (I.Value e) ∷ [] }

abbrev pub clause : Name → Node ExprKind → Node ClauseKind
clause x e = node (roll-ClauseKind (clause_layer x e))

-- the function `name(X) -> E.`
abbrev pub function : Name → Name → Node ExprKind → Function
function name x e = record { name = name; place = record { line = 1; column = 1 }; marks = []; clauses = clause x e ∷ [] }

-- the module of this function alone
abbrev pub module_of : Name → Name → Node ExprKind → Module
module_of name x e = record { name = codes "m"; marks = []; forms = F.Function (function name x e) ∷ [] }

-- ---- types and specs

-- integer()
abbrev pub integers : Term
integers = Ints Open Open

-- the arrow `(T) -> U`
abbrev pub arrow : Term → Term → Arrow
arrow t u = record { params = t ∷ []; result = u }

-- the spec of a function of one parameter, with these clauses over so many type variables
abbrev pub spec : Name → ℕ → List Arrow → List FunSpec
spec name vars clauses = record { name = name; arity = 1; vars = vars; clauses = clauses } ∷ []

-- ---- a spec of two clauses

-- -spec f(integer()) -> integer().
abbrev pub first_clause : List FunSpec
first_clause = spec (codes "f") 0 (arrow integers integers ∷ [])

-- -spec f(integer()) -> integer(); (atom()) -> atom().
abbrev pub both_clauses : List FunSpec
both_clauses = spec (codes "f") 0 (arrow integers integers ∷ arrow AnyAtom AnyAtom ∷ [])

-- f(X) -> X.
abbrev pub f_gives_argument : Module
f_gives_argument = module_of (codes "f") (codes "X") (variable (codes "X"))

-- f(X) -> 0.
abbrev pub f_gives_zero : Module
f_gives_zero = module_of (codes "f") (codes "X") zero_written

-- ---- a spec with a type variable

-- -spec id(A) -> A.
abbrev pub identity_spec : List FunSpec
identity_spec = spec (codes "id") 1 (arrow (Var 0) (Var 0) ∷ [])

-- id(X) -> X.
abbrev pub id_gives_argument : Module
id_gives_argument = module_of (codes "id") (codes "X") (variable (codes "X"))

-- id(X) -> 0.
abbrev pub id_gives_zero : Module
id_gives_zero = module_of (codes "id") (codes "X") zero_written

-- integer() and atom() for the variable 0, which is A
abbrev pub integers_for_a : Instance
integers_for_a = variable_and 0 integers [] no_variables no_variables

abbrev pub atoms_for_a : Instance
atoms_for_a = variable_and 0 AnyAtom [] no_variables no_variables

-- ---- a fun as an argument

-- fun((integer()) -> integer())
abbrev pub integer_funs : Term
integer_funs = Fun (integers ∷ []) integers

-- -spec app(fun((integer()) -> integer())) -> integer().
abbrev pub app_spec : List FunSpec
app_spec = spec (codes "app") 0 (arrow integer_funs integers ∷ [])

-- app(F) -> F(1).
abbrev pub app_of_one : Module
app_of_one = module_of (codes "app") (codes "F") (node (X.Apply (variable (codes "F")) (one_written ∷ [])))

-- app(F) -> F(a).
abbrev pub app_of_atom : Module
app_of_atom = module_of (codes "app") (codes "F") (node (X.Apply (variable (codes "F")) (a_written ∷ [])))

-- fun(X) -> X end
abbrev pub fun_that_keeps : Node ExprKind
fun_that_keeps = node (X.Fun (clause (codes "X") (variable (codes "X")) ∷ []))

-- fun(X) -> a end
abbrev pub fun_that_breaks : Node ExprKind
fun_that_breaks = node (X.Fun (clause (codes "X") a_written ∷ []))

-- the closure of the first fun expression of a program, with nothing bound
abbrev pub first_closure : Value
first_closure = closure 0 no_bindings

-- 1 and a
abbrev pub one : Value
one = integer (pos 1)

abbrev pub atom_a : Value
atom_a = atom (codes "a")
