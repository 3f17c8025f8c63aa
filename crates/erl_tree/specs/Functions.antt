-- The functions of a module, and the names and arities by which they are called (Erlang Reference Manual, "Functions").
use Rattle.std.specs.Prelude.{ℕ, List, [], ◌∷◌, map, length, Bool, ◌&&◌, nat_eq, Option, Some, None, if◌then◌else◌}
use Rattle.type_terms.specs.Keys.{Name, same_name}
use Rattle.erl_tree.specs.declared.token.Node.{Node}
use Rattle.erl_tree.specs.declared.expr.ClauseKind.{ClauseKind, out-ClauseKind}
use Rattle.erl_tree.specs.declared.form.Function.{Function}
use Rattle.erl_tree.specs.declared.form.SpecClauseKind.{SpecClauseKind}
use Rattle.erl_tree.specs.declared.form.TreeForm.{TreeForm}
use Rattle.erl_tree.specs.declared.form.TreeForm.TheVariants as F
use Rattle.erl_tree.specs.declared.form.Module.{Module}

-- what names a function: its name and arity
pub record FunctionId : Type 0 where
  pub name : Name
  pub arity : ℕ

-- the function with this name and arity
abbrev pub of_function : Name → ℕ → FunctionId
of_function name arity = record { name = name; arity = arity }

-- the number of patterns of the first clause
abbrev pub clauses_arity : List (Node ClauseKind) → ℕ
clauses_arity [] = 0
clauses_arity (c ∷ cs) = length (out-ClauseKind c.kind).patterns

-- the number of parameters of a spec's first clause
abbrev pub spec_clauses_arity : List (Node SpecClauseKind) → ℕ
spec_clauses_arity [] = 0
spec_clauses_arity (c ∷ cs) = length c.kind.params

-- a function's name and arity
abbrev pub function_id : Function → FunctionId
function_id f = of_function f.name (clauses_arity f.clauses)

-- the functions among forms
abbrev pub functions_in : List TreeForm → List Function
functions_in [] = []
functions_in (F.Function f ∷ forms) = f ∷ functions_in forms
functions_in (form ∷ forms) = functions_in forms

-- the functions of a module, in text order
abbrev pub functions_of : Module → List Function
functions_of m = functions_in m.forms

-- their names and arities
abbrev pub function_ids : Module → List FunctionId
function_ids m = map function_id (functions_of m)

-- whether a function has this name and arity
abbrev pub has_id : Name → ℕ → Function → Bool
has_id name arity f = same_name f.name name && nat_eq (clauses_arity f.clauses) arity

-- the first function with this name and arity
abbrev pub find_function : List Function → Name → ℕ → Option Function
find_function [] name arity = None
find_function (f ∷ fs) name arity = if has_id name arity f then Some f else find_function fs name arity
