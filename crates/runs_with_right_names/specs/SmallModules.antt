-- Small modules, for examples. Neither a run nor whether names are right depends on places and marks, so each node stands at the first place of a text and has no marks.
use Rattle.std.specs.Prelude.{[], ◌∷◌, None, codes}
use Rattle.type_terms.specs.Keys.{Name}
use Rattle.erl_tree.specs.declared.token.Node.{Node}
use Rattle.erl_tree.specs.declared.pattern.PatternKind.TheVariants as P
use Rattle.erl_tree.specs.declared.type_expr.TypeKind.{TypeKind}
use Rattle.erl_tree.specs.declared.type_expr.TypeKind.TheVariants as Y
use Rattle.erl_tree.specs.declared.expr.ExprKind.{ExprKind}
use Rattle.erl_tree.specs.declared.expr.ExprKind.TheVariants as X
use Rattle.erl_tree.specs.declared.expr.ItemKind.TheVariants as I
use Rattle.erl_tree.specs.declared.form.Function.{Function}
use Rattle.erl_tree.specs.declared.form.TreeForm.TheVariants as F
use Rattle.erl_tree.specs.declared.form.Module.{Module}
use Rattle.erl_tree.specs.SmallText.{place}
use Rattle.erl_grammar.specs.Grammar.{node, clause_of}
use Rattle.erl_runs.specs.Value.{Value, named_fun, Environment, no_bindings}
use Rattle.erl_runs.specs.Matching.{with_variable}

-- ---- trees

abbrev pub stands : {K : Type 0} → K → Node K
stands kind = node (place 1) [] kind

-- the variables X and Y
abbrev pub name_x : Name
name_x = codes "X"

abbrev pub name_y : Name
name_y = codes "Y"

abbrev pub variable : Name → Node ExprKind
variable x = stands (X.Var x)

-- `g(X)`
abbrev pub call_of_g : Node ExprKind
call_of_g = stands (X.Call None (codes "g") (variable name_x ∷ []))

-- `fun()->E end` for an expression E
abbrev pub fun_of : Node ExprKind → Node ExprKind
fun_of e = stands (X.Fun (stands (clause_of [] None (stands (I.Value e) ∷ [])) ∷ []))

-- `fun()->Y end` and `fun()->g() end`
abbrev pub fun_of_y : Node ExprKind
fun_of_y = fun_of (variable name_y)

abbrev pub fun_of_g : Node ExprKind
fun_of_g = fun_of (stands (X.Call None (codes "g") []))

-- ---- modules

abbrev pub any_type : Node TypeKind
any_type = stands (Y.Use None (codes "any") [])

-- `f(X)->E.` for an expression E
abbrev pub function_f : Node ExprKind → Function
function_f e = record { name = codes "f"; place = place 1; marks = []; clauses = stands (clause_of (stands (P.Var name_x) ∷ []) None (stands (I.Value e) ∷ [])) ∷ [] }

-- `-spec f(any())->any().`, and the function
abbrev pub module_of : Node ExprKind → Module
module_of e = record { name = codes "a"; marks = []; forms = F.Spec (stands (record { name = codes "f"; clauses = stands (record { params = any_type ∷ []; result = any_type; bounds = [] }) ∷ [] })) ∷ F.Function (function_f e) ∷ [] }

-- the modules of `f(X)->X.`, `f(X)->Y.` and `f(X)->g(X).`
abbrev pub gives_x : Module
gives_x = module_of (variable name_x)

abbrev pub gives_y : Module
gives_y = module_of (variable name_y)

abbrev pub calls_g : Module
calls_g = module_of call_of_g

-- ---- values

-- `fun f/1` and `fun g/1`
abbrev pub fun_f : Value
fun_f = named_fun (codes "f") 1

abbrev pub fun_g : Value
fun_g = named_fun (codes "g") 1

-- the environment with this value for Y alone
abbrev pub with_y : Value → Environment
with_y v = with_variable name_y v no_bindings
