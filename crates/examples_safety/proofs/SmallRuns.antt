-- Runs of modules of one function of one parameter, whose body is an expression.
use Rattle.std.proofs.Common.{◌≡◌, refl, ap, ◌∙◌, ℕ, suc, List, [], ◌∷◌, length}
use Rattle.std.specs.Prelude.{Bool, false, ◌&&◌, Some, None, cond, nat_eq}
use Rattle.type_terms.specs.Keys.{Name}
use Rattle.type_terms.proofs.KeyLaws.{name-refl}
use Rattle.erl_tree.specs.declared.token.Node.{Node}
use Rattle.erl_tree.specs.declared.expr.ExprKind.{ExprKind}
use Rattle.erl_tree.specs.declared.expr.ItemKind.TheVariants as I
use Rattle.erl_tree.specs.declared.expr.ClauseKind.{roll-ClauseKind, out-roll-ClauseKind}
use Rattle.erl_tree.specs.declared.form.Function.{Function}
use Rattle.erl_tree.specs.declared.form.RecDefKind.{RecDefKind}
use Rattle.erl_tree.specs.Functions.{clauses_arity}
use Rattle.erl_runs.specs.Names.{is_wildcard}
use Rattle.erl_runs.specs.Value.{Value, named_fun, no_bindings, Outcome}
use Rattle.erl_runs.specs.Matching.{with_variable, Match, match_next, match_patterns, match_variable}
use Rattle.erl_runs.specs.Running.{with_calls, Applies, run_kind, choice_kind, taken_anew, run_clauses, run_expression, run_function, find_numbered, code_of, apply}
use Rattle.erl_runs.proofs.MatchLaws.{match_kind-Var}
use Rattle.erl_runs.proofs.RunLaws.{run_bound, one_clause-runs}
use Rattle.erl_runs.proofs.BoundFree.{apply-step}
use Rattle.examples_safety.specs.SmallSafety.{node, clause_layer, function, module_of}

module _ (x : Name) (e : Node ExprKind) where
  -- the clause `(X) -> E` runs its body with the argument for the variable
  pub clause-runs : is_wildcard x ≡ false → (unbound : Outcome Value) (records : List RecDefKind) (arity : Value → ℕ) (applies : Applies) (first : ℕ) (v : Value) (steps : ℕ) →
      run_clauses taken_anew (choice_kind unbound records arity applies (roll-ClauseKind (clause_layer x e)) ∷ []) first no_bindings (v ∷ []) steps
      ≡ (run_kind unbound records arity applies e.kind).run first (with_variable x v no_bindings) steps
  clause-runs named unbound records arity applies first v steps =
      one_clause-runs unbound records arity applies (roll-ClauseKind (clause_layer x e)) (clause_layer x e).patterns (node (I.Value e)) e (out-roll-ClauseKind (clause_layer x e)) refl first (v ∷ []) steps
      ∙ ap (λ o. run_bound unbound records arity applies o (λ environment. (run_kind unbound records arity applies e.kind).run first environment steps) steps) bound
    where
      bound-by : (b : Bool) → b ≡ false → match_next (cond b (Some no_bindings) (match_variable None x v no_bindings)) (match_patterns records [] []) ≡ Some (with_variable x v no_bindings)
      bound-by b h = ap (λ b. match_next (cond b (Some no_bindings) (match_variable None x v no_bindings)) (match_patterns records [] [])) h

      bound : match_patterns records (clause_layer x e).patterns (v ∷ []) no_bindings ≡ Some (with_variable x v no_bindings)
      bound = ap (λ (m : Match). match_next (m v no_bindings) (match_patterns records [] [])) (match_kind-Var records x) ∙ bound-by (is_wildcard x) named

module _ (name x : Name) (e : Node ExprKind) where
  pub has-one : clauses_arity (function name x e).clauses ≡ 1
  has-one = ap (λ l. length l.patterns) (out-roll-ClauseKind (clause_layer x e))

  first-found : (fs : List (Function × ℕ)) → find_numbered ((function name x e, 0) ∷ fs) name 1 ≡ Some (function name x e, 0)
  first-found fs = λ j. cond (name-refl name j && nat_eq (has-one j) 1) (Some (function name x e, 0)) (find_numbered fs name 1)

  -- an application of the function lists its call and runs the body
  pub applied : is_wildcard x ≡ false → (outside : List (Node ExprKind)) (v : Value) (steps : ℕ) →
      apply (code_of (module_of name x e) outside) (named_fun name 1) (v ∷ []) (suc steps)
      ≡ with_calls (record { name = name; args = v ∷ []; left = steps } ∷ []) (run_expression (code_of (module_of name x e) outside) (apply (code_of (module_of name x e) outside)) e 0 (with_variable x v no_bindings) steps)
  applied named outside v steps =
      apply-step (code_of (module_of name x e) outside) (named_fun name 1) (v ∷ []) steps
      ∙ ap (λ r. with_calls (record { name = name; args = v ∷ []; left = steps } ∷ []) r)
      (ap (λ o. run_function (code_of (module_of name x e) outside) (apply (code_of (module_of name x e) outside)) o (v ∷ []) steps) (first-found [])
      ∙ clause-runs x e named _ _ _ (apply (code_of (module_of name x e) outside)) 0 v steps)
