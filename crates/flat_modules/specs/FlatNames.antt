-- The variables and the calls of flat modules, and what right names come to in them.
use Rattle.std.specs.Prelude.{◌≡◌, List, [], ◌∷◌, ◌++◌, map, length, false, None, if◌then◌else◌}
use Rattle.type_terms.specs.Keys.{Name}
use Rattle.erl_tree.specs.Lists.{Every, Among, AreDistinct}
use Rattle.erl_tree.specs.declared.token.Node.{Node}
use Rattle.erl_tree.specs.declared.pattern.PatternKind.{PatternKind, out-PatternKind}
use Rattle.erl_tree.specs.declared.pattern.PatternKind.TheOpen as P
use Rattle.erl_tree.specs.declared.expr.ExprKind.{ExprKind, fold-ExprKind}
use Rattle.erl_tree.specs.declared.expr.ItemKind.{ItemKind, out-ItemKind}
use Rattle.erl_tree.specs.declared.expr.ClauseKind.{ClauseKind, out-ClauseKind}
use Rattle.erl_tree.specs.declared.expr.QualifierKind.{QualifierKind}
use Rattle.erl_tree.specs.declared.expr.AssocKind.{AssocKind}
use Rattle.erl_tree.specs.declared.expr.CatchKind.{CatchKind}
use Rattle.erl_tree.specs.declared.expr.ExprKind.TheOpen as E
use Rattle.erl_tree.specs.declared.form.Function.{Function}
use Rattle.erl_tree.specs.declared.form.Module.{Module}
use Rattle.erl_tree.specs.Functions.{FunctionId, of_function, functions_of, function_ids}
use Rattle.erl_runs.specs.Names.{is_wildcard, is_built_in}
use Rattle.erl_runs.specs.Specs.{spec_id}
use Rattle.flat_modules.specs.FlatSpecs.{specs_of}

-- ---- variables

-- what one level of a pattern binds: a variable that isn't the wildcard
abbrev pub bound_layer : P.PatternKind-F PatternKind → List Name
bound_layer (P.Var x) = if is_wildcard x then [] else x ∷ []
bound_layer _ = []

-- the variables that patterns bind, in text order; the wildcard binds nothing
abbrev pub bound_by : List (Node PatternKind) → List Name
bound_by [] = []
bound_by (p ∷ ps) = bound_layer (out-PatternKind p.kind) ++ bound_by ps

-- what all of some nodes have, one after the other
abbrev pub together : {A : Type 0} → List (Node (List A)) → List A
together [] = []
together (n ∷ ns) = n.kind ++ together ns

-- the variables of one level of an expression, whose parts have these
abbrev pub used_layer : E.ExprKind-F (List Name) (Unit {0}) (Unit {0}) (Unit {0}) (Unit {0}) (Unit {0}) → List Name
used_layer (E.Var x) = x ∷ []
used_layer (E.Paren e) = e.kind
used_layer (E.Binary op a b) = a.kind ++ b.kind
used_layer (E.Call prefix name args) = together args
used_layer _ = []

-- the variables that an expression uses, in text order
unfoldable pub used_in : ExprKind → List Name
used_in e = fold-ExprKind (List Name) (Unit {0}) (Unit {0}) (Unit {0}) (Unit {0}) (Unit {0}) used_layer (λ i. tt) (λ q. tt) (λ a. tt) (λ c. tt) (λ c. tt) e

-- the variables of an element of a body
abbrev pub used_item_layer : E.ItemKind-F ExprKind ItemKind QualifierKind AssocKind CatchKind ClauseKind → List Name
used_item_layer (E.Value e) = used_in e.kind
used_item_layer _ = []

-- the variables that a body uses
abbrev pub used_by : List (Node ItemKind) → List Name
used_by [] = []
used_by (i ∷ is) = used_item_layer (out-ItemKind i.kind) ++ used_by is

-- each variable that is used is bound in the clause's head
abbrev pub IsScopedClause : Node ClauseKind → Type 0
IsScopedClause c = Every (λ x. Among x (bound_by (out-ClauseKind c.kind).patterns)) (used_by (out-ClauseKind c.kind).body)

-- the same of each clause
abbrev pub IsScoped : Function → Type 0
IsScoped f = Every IsScopedClause f.clauses

-- ---- calls

-- the functions that one level of an expression calls by name, whose parts call these
abbrev pub called_layer : E.ExprKind-F (List FunctionId) (Unit {0}) (Unit {0}) (Unit {0}) (Unit {0}) (Unit {0}) → List FunctionId
called_layer (E.Paren e) = e.kind
called_layer (E.Binary op a b) = a.kind ++ b.kind
called_layer (E.Call None name args) = of_function name (length args) ∷ together args
called_layer _ = []

-- the functions that an expression calls, in text order
unfoldable pub called_in : ExprKind → List FunctionId
called_in e = fold-ExprKind (List FunctionId) (Unit {0}) (Unit {0}) (Unit {0}) (Unit {0}) (Unit {0}) called_layer (λ i. tt) (λ q. tt) (λ a. tt) (λ c. tt) (λ c. tt) e

-- the functions that an element of a body calls
abbrev pub called_item_layer : E.ItemKind-F ExprKind ItemKind QualifierKind AssocKind CatchKind ClauseKind → List FunctionId
called_item_layer (E.Value e) = called_in e.kind
called_item_layer _ = []

-- each call in a clause is of one of these functions
abbrev pub CallsOnly : List FunctionId → Node ClauseKind → Type 0
CallsOnly ids c = Every (λ i. Every (λ id. Among id ids) (called_item_layer (out-ItemKind i.kind))) (out-ClauseKind c.kind).body

-- the same of each clause of a function
abbrev pub FunctionCallsOnly : List FunctionId → Function → Type 0
FunctionCallsOnly ids f = Every (CallsOnly ids) f.clauses

-- ---- modules

-- some of what right names come to in a flat module whose specs have terms: no function is defined twice or is built in; each function has a spec, and each spec a function; each variable that is used is bound
pub record HasRightFlatNames (m : Module) : Type 0 where
  pub functions_distinct : AreDistinct (function_ids m)
  pub not_built_in : Every (λ id. is_built_in id ≡ false) (function_ids m)
  pub specified : Every (λ id. Among id (map spec_id (specs_of m))) (function_ids m)
  pub defined : Every (λ id. Among id (function_ids m)) (map spec_id (specs_of m))
  pub scoped : Every IsScoped (functions_of m)
