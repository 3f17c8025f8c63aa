-- Runs of functions of one parameter, whose body is one expression, and of calls with one argument.
use Rattle.std.proofs.Common.{◌≡◌, refl, ap, ◌∙◌, ℕ, suc, List, [], ◌∷◌, length}
use Rattle.std.specs.Prelude.{Bool, false, ◌&&◌, Some, None, cond, nat_eq, codes}
use Rattle.type_terms.specs.Keys.{Name}
use Rattle.type_terms.proofs.KeyLaws.{name-refl}
use Rattle.erl_tree.specs.declared.token.Node.{Node}
use Rattle.erl_tree.specs.declared.pattern.PatternKind.TheVariants as P
use Rattle.erl_tree.specs.declared.expr.ExprKind.{ExprKind}
use Rattle.erl_tree.specs.declared.expr.ExprKind.TheVariants as E
use Rattle.erl_tree.specs.declared.expr.ItemKind.{ItemKind}
use Rattle.erl_tree.specs.declared.expr.ItemKind.TheVariants as I
use Rattle.erl_tree.specs.declared.expr.QualifierKind.{QualifierKind}
use Rattle.erl_tree.specs.declared.expr.AssocKind.{AssocKind}
use Rattle.erl_tree.specs.declared.expr.CatchKind.{CatchKind}
use Rattle.erl_tree.specs.declared.expr.ClauseKind.{ClauseKind, roll-ClauseKind, out-roll-ClauseKind}
use Rattle.erl_tree.specs.declared.expr.ExprKind.TheOpen as O
use Rattle.erl_tree.specs.declared.form.Function.{Function}
use Rattle.erl_tree.specs.Functions.{clauses_arity}
use Rattle.erl_runs.specs.Names.{is_wildcard}
use Rattle.erl_runs.specs.Value.{Value, named_fun, Environment, no_bindings}
use Rattle.erl_runs.specs.Matching.{with_variable, Match, match_next, match_patterns, match_variable}
use Rattle.erl_runs.specs.Operations.{built_in}
use Rattle.erl_runs.specs.Running.{gives, then, with_calls, Applies, Code, arity_of, run_call, run_kind, run_expression, run_function, find_numbered, apply}
use Rattle.erl_runs.proofs.MatchLaws.{match_kind-Var}
use Rattle.erl_runs.proofs.RunLaws.{run_bound, runs-Call, one_clause-runs}
use Rattle.erl_runs.proofs.BoundFree.{apply-step}
use Rattle.cert_checker.specs.Examples.{place, small_function}

-- ---- functions

module _ (name : Name) (line dot : ℕ) (x : Name) (e : Node ExprKind) where
  abbrev function : Function
  function = small_function name line dot x e

  -- what its clause holds
  abbrev small_layer : O.ClauseKind-F ExprKind ItemKind QualifierKind AssocKind CatchKind ClauseKind
  small_layer = record {
    patterns = record { place = place line 3; marks = place line 3 ∷ []; kind = P.Var x } ∷ [];
    guard = None;
    body = record { place = e.place; marks = []; kind = I.Value e } ∷ [];
  }

  has-one : clauses_arity function.clauses ≡ 1
  has-one = ap (λ l. length l.patterns) (out-roll-ClauseKind small_layer)

  -- in front of others it is found
  pub first-found : (fs : List (Function × ℕ)) (first : ℕ) → find_numbered ((function, first) ∷ fs) name 1 ≡ Some (function, first)
  first-found fs first = λ j. cond (name-refl name j && nat_eq (has-one j) 1) (Some (function, first)) (find_numbered fs name 1)

  -- the body is run with the argument for the variable
  function-runs : is_wildcard x ≡ false → (code : Code) (applies : Applies) (first : ℕ) (v : Value) (steps : ℕ) → run_function code applies (Some (function, first)) (v ∷ []) steps ≡ run_expression code applies e first (with_variable x v no_bindings) steps
  function-runs named code applies first v steps =
      one_clause-runs code.unbound code.records (arity_of code) applies (roll-ClauseKind small_layer) small_layer.patterns (record { place = e.place; marks = []; kind = I.Value e }) e (out-roll-ClauseKind small_layer) refl first (v ∷ []) steps
      ∙ ap (λ o. run_bound code.unbound code.records (arity_of code) applies o (λ environment. run_expression code applies e first environment steps) steps) bound
    where
      bound-by : (b : Bool) → b ≡ false → match_next (cond b (Some no_bindings) (match_variable None x v no_bindings)) (match_patterns code.records [] []) ≡ Some (with_variable x v no_bindings)
      bound-by b h = ap (λ b. match_next (cond b (Some no_bindings) (match_variable None x v no_bindings)) (match_patterns code.records [] [])) h

      bound : match_patterns code.records small_layer.patterns (v ∷ []) no_bindings ≡ Some (with_variable x v no_bindings)
      bound = ap (λ (m : Match). match_next (m v no_bindings) (match_patterns code.records [] [])) (match_kind-Var code.records x) ∙ bound-by (is_wildcard x) named

  -- an application of the function that is found lists its call and runs the body
  pub small-applied : is_wildcard x ≡ false → (code : Code) (first : ℕ) → find_numbered code.functions name 1 ≡ Some (function, first) → (v : Value) (steps : ℕ) →
      apply code (named_fun name 1) (v ∷ []) (suc steps) ≡ with_calls (record { name = name; args = v ∷ []; left = steps } ∷ []) (run_expression code (apply code) e first (with_variable x v no_bindings) steps)
  small-applied named code first is v steps =
      apply-step code (named_fun name 1) (v ∷ []) steps
      ∙ ap (λ r. with_calls (record { name = name; args = v ∷ []; left = steps } ∷ []) r)
      (ap (λ o. run_function code (apply code) o (v ∷ []) steps) is ∙ function-runs named code (apply code) first v steps)

-- ---- calls

-- a call of the function `f` with an argument that gives a value applies the function to it
pub call-runs : (code : Code) (applies : Applies) (argument : Node ExprKind) (v : Value) (first : ℕ) (environment : Environment) (steps : ℕ) → run_expression code applies argument first environment steps ≡ gives v steps →
    (run_kind code.unbound code.records (arity_of code) applies (E.Call None (codes "f") (argument ∷ []))).run first environment steps ≡ applies (named_fun (codes "f") 1) (v ∷ []) steps
unfolding then
call-runs code applies argument v first environment steps h =
    runs-Call code.unbound code.records (arity_of code) applies None (codes "f") (argument ∷ []) first environment steps
    ∙ ap (λ r. then (then r (λ v left. then (gives [] left) (λ vs rest. gives (v ∷ vs) rest))) (λ vs left. run_call code.unbound None (built_in (arity_of code) (codes "f") vs) (λ rest. applies (named_fun (codes "f") (length vs)) vs rest) left)) h
