-- When a module is safe. It is said of every module, and runs (`Running`) are those of every form. The specs and the definitions are given; which a module has, the rules of types say.
use Rattle.std.specs.Prelude.{◌≡◌, ℕ, List}
use Rattle.std.specs.List.{Contains}
use Rattle.type_terms.specs.declared.term.Def.{Def}
use Rattle.type_terms.specs.declared.term.Term.{Term}
use Rattle.type_terms.specs.declared.spec.Arrow.{Arrow}
use Rattle.type_terms.specs.declared.spec.FunSpec.{FunSpec}
use Rattle.type_terms.specs.Instances.{Instance, IsInstance}
use Rattle.erl_tree.specs.declared.token.Node.{Node}
use Rattle.erl_tree.specs.declared.expr.ExprKind.{ExprKind}
use Rattle.erl_tree.specs.declared.form.Function.{Function}
use Rattle.erl_tree.specs.declared.form.Module.{Module}
use Rattle.erl_tree.specs.Lists.{Among}
use Rattle.erl_tree.specs.Functions.{functions_of, clauses_arity}
use Rattle.erl_runs.specs.Value.{Value, named_fun, Run, came}
use Rattle.erl_runs.specs.Membership.{Program, InTerm, values_in, arrows_of, IsGoodRun}
use Rattle.erl_runs.specs.Running.{apply, code_of, program_of}

-- the values are in the terms at every level
abbrev pub AlwaysIn : Program → List Value → List Term → Instance → Type 0
AlwaysIn program values terms i = (k : ℕ) → values_in (InTerm program k) values terms program.defs i

-- a run is good for the term, and a value that came is in it at every level
pub record IsRightRun (program : Program) (run : Run Value) (t : Term) (i : Instance) : Type 0 where
  pub good : IsGoodRun program run t program.defs i
  pub value : (v : Value) → run.outcome ≡ came v → (k : ℕ) → InTerm program k v t program.defs i

-- each function, run with any number of steps on arguments within a clause of its spec, under any instance of the spec's variables, is right for that clause's result, whatever outside fun expressions the arguments are closures of (any list of expressions is allowed here, which is more than is asked)
abbrev pub IsSafe : Module → List FunSpec → List Def → Type 0
IsSafe m specs defs =
    (outside : List (Node ExprKind)) (f : Function) (arrow : Arrow) (i : Instance) (args : List Value) (steps : ℕ) →
    Among f (functions_of m) → Contains (arrows_of specs f.name (clauses_arity f.clauses)) arrow → IsInstance i →
    AlwaysIn (program_of (code_of m outside) specs defs) args arrow.params i →
    IsRightRun (program_of (code_of m outside) specs defs) (apply (code_of m outside) (named_fun f.name (clauses_arity f.clauses)) args steps) arrow.result i
