-- Runs of small modules, with an unbound name and without one, and values that are known or not.
use Rattle.std.proofs.Common.{◌≡◌, refl, sym, ◌∙◌, ap, subst, inl, ℕ, suc, List, [], ◌∷◌, length, true, false, ◌&&◌, cond, nat_eq}
use Rattle.std.specs.Prelude.{Some, None, codes}
use Rattle.std.specs.List.{list_any}
use Rattle.std.proofs.lemmas.Bool.{false≢true}
use Rattle.type_terms.specs.Keys.{same_name}
use Rattle.erl_tree.specs.declared.token.Node.{Node}
use Rattle.erl_tree.specs.declared.pattern.PatternKind.TheVariants as P
use Rattle.erl_tree.specs.declared.expr.ExprKind.{ExprKind}
use Rattle.erl_tree.specs.declared.expr.ExprKind.TheOpen as E
use Rattle.erl_tree.specs.declared.expr.ItemKind.{ItemKind}
use Rattle.erl_tree.specs.declared.expr.ItemKind.TheVariants as I
use Rattle.erl_tree.specs.declared.expr.QualifierKind.{QualifierKind}
use Rattle.erl_tree.specs.declared.expr.AssocKind.{AssocKind}
use Rattle.erl_tree.specs.declared.expr.CatchKind.{CatchKind}
use Rattle.erl_tree.specs.declared.expr.ClauseKind.{ClauseKind, roll-ClauseKind, out-roll-ClauseKind}
use Rattle.erl_tree.specs.Functions.{of_function, clauses_arity, functions_of, function_ids}
use Rattle.erl_tree.specs.SmallText.{place, small_module}
use Rattle.erl_runs.specs.Names.{same_id}
use Rattle.erl_runs.specs.Records.{records_of}
use Rattle.erl_runs.specs.SmallPrograms.{one}
use Rattle.erl_runs.specs.Value.{Value, cons, nil, named_fun, closure, Environment, no_bindings, Outcome, came, wrong, going, Run}
use Rattle.erl_runs.specs.Matching.{with_variable, Match, match_next, match_patterns}
use Rattle.erl_runs.specs.Operations.{built_in}
use Rattle.erl_runs.specs.Running.{ends, gives, then, with_calls, Applies, Code, code_with, arity_of, run_call, run_expression, run_function, find_numbered, apply}
use Rattle.erl_runs.proofs.MatchLaws.{match_kind-Var}
use Rattle.erl_runs.proofs.RunLaws.{run_bound, runs-Var, runs-Call, one_clause-runs}
use Rattle.erl_runs.proofs.BoundFree.{apply-none, apply-step}
use Rattle.erl_scope_rules.specs.declared.role.Role.TheVariants.{Used}
use Rattle.erl_scope_rules.specs.declared.fault.NameFault.TheVariants.{NoSuchFunction}
use Rattle.erl_scope_rules.specs.declared.fault.PlacedFault.{PlacedFault}
use Rattle.erl_scope_rules.specs.Occurrences.{Occurrence, expr_part}
use Rattle.erl_scope_rules.specs.ScopeFaults.{HasRightNames, is_defined, expr_faults}
use Rattle.erl_scope_rules.proofs.OccurrenceLaws.{variables_equations, part_equations}
use Rattle.erl_scope_rules.proofs.FaultLaws.{pattern_fault_equations, fault_equations}
use Rattle.runs_with_right_names.specs.KnownValues.{HasVariables, IsKnown}
use Rattle.runs_with_right_names.specs.SameRuns.{MeetsNoUnboundName}
use Rattle.runs_with_right_names.specs.SmallModules.{stands, name_x, name_y, variable, call_of_g, fun_of_y, fun_of_g, function_f, module_of, gives_x, gives_y, calls_g, fun_f, fun_g, with_y}
use Rattle.runs_with_right_names.proofs.FunNumbers.{defined-among}
use Rattle.runs_with_right_names.proofs.Applied.{applied}

-- what the clause of a function holds
abbrev layer_of : Node ExprKind → E.ClauseKind-F ExprKind ItemKind QualifierKind AssocKind CatchKind ClauseKind
layer_of e = record { patterns = stands (P.Var name_x) ∷ []; guard = None; body = stands (I.Value e) ∷ [] }

has-one : (e : Node ExprKind) → clauses_arity (function_f e).clauses ≡ 1
has-one e = ap (λ l. length l.patterns) (out-roll-ClauseKind (layer_of e))

-- the environment with 1 for X
abbrev bound_one : Environment
bound_one = with_variable name_x one no_bindings

-- ---- runs of f

module _ (unbound : Outcome Value) (outside : List (Node ExprKind)) (e : Node ExprKind) where
  abbrev code : Code
  code = code_with unbound (module_of e) outside

  f-found : find_numbered code.functions (codes "f") 1 ≡ Some (function_f e, 0)
  f-found = λ j. cond (same_name (codes "f") (codes "f") && nat_eq (has-one e j) 1) (Some (function_f e, 0)) None

  f-body : (applies : Applies) (steps : ℕ) → run_function code applies (Some (function_f e, 0)) (one ∷ []) steps ≡ run_expression code applies e 0 bound_one steps
  f-body applies steps =
      one_clause-runs code.unbound code.records (arity_of code) applies (roll-ClauseKind (layer_of e)) (layer_of e).patterns (stands (I.Value e)) e (out-roll-ClauseKind (layer_of e)) refl 0 (one ∷ []) steps
      ∙ ap (λ (m : Match). run_bound code.unbound code.records (arity_of code) applies (match_next (m one no_bindings) (match_patterns code.records [] [])) (λ environment. run_expression code applies e 0 environment steps) steps) (match_kind-Var code.records name_x)

  -- a call of f with 1 runs its body
  f-applied : (steps : ℕ) → apply code fun_f (one ∷ []) (suc steps) ≡ with_calls (record { name = codes "f"; args = one ∷ []; left = steps } ∷ []) (run_expression code (apply code) e 0 bound_one steps)
  f-applied steps =
      apply-step code fun_f (one ∷ []) steps
      ∙ ap (λ r. with_calls (record { name = codes "f"; args = one ∷ []; left = steps } ∷ []) r) (ap (λ o. run_function code (apply code) o (one ∷ []) steps) f-found ∙ f-body (apply code) steps)

-- a run that gives what an unbound name gives is another one where it gives something than where it goes wrong
differ : (f : Outcome Value → Run Value) → ((unbound : Outcome Value) → (f unbound).outcome ≡ unbound) → ((unbound : Outcome Value) → f unbound ≡ f wrong) → ⊥
differ f ends_so same = apart (sym (ends_so (came one)) ∙ (ap (λ r. r.outcome) (same (came one)) ∙ ends_so wrong))
  where
    apart : ◌≡◌ {A = Outcome Value} (came one) wrong → ⊥
    apart e = absurd (cc)

module _ (outside : List (Node ExprKind)) where
  f-known : (e : Node ExprKind) → IsKnown (module_of e) outside fun_f
  f-known e = subst (λ arity. is_defined (function_ids (module_of e)) (records_of (module_of e)) (of_function (codes "f") arity) ≡ true) (has-one e) (defined-among (function_f e) (functions_of (module_of e)) (inl refl))

  -- ---- no unbound name

  pub no_unbound_name-none_met : HasRightNames gives_x → (steps : ℕ) → MeetsNoUnboundName gives_x outside fun_f (one ∷ []) steps
  no_unbound_name-none_met right steps unbound = (applied gives_x right outside unbound fun_f (one ∷ []) steps (f-known (variable name_x)) (tt, tt)).same

  -- ---- a variable without a value

  y-outcome : (steps : ℕ) (unbound : Outcome Value) → (apply (code_with unbound gives_y outside) fun_f (one ∷ []) (suc steps)).outcome ≡ unbound
  y-outcome steps unbound =
      ap (λ r. r.outcome) (f-applied unbound outside (variable name_y) steps)
      ∙ ap (λ r. r.outcome) (runs-Var unbound [] (arity_of (code_with unbound gives_y outside)) (apply (code_with unbound gives_y outside)) name_y 0 bound_one steps)

  pub a_variable_without_a_value-met : (steps : ℕ) → MeetsNoUnboundName gives_y outside fun_f (one ∷ []) (suc steps) → ⊥
  a_variable_without_a_value-met steps h = differ (λ unbound. apply (code_with unbound gives_y outside) fun_f (one ∷ []) (suc steps)) (y-outcome steps) h

  pub a_variable_without_a_value-none_met : MeetsNoUnboundName gives_y outside fun_f (one ∷ []) 0
  a_variable_without_a_value-none_met unbound = apply-none (code_with unbound gives_y outside) fun_f (one ∷ []) ∙ sym (apply-none (code_with wrong gives_y outside) fun_f (one ∷ []))

  -- ---- a function that is absent

  abbrev calling : Outcome Value → Code
  calling unbound = code_with unbound calls_g outside

  call_of_g-runs : (unbound : Outcome Value) (applies : Applies) (steps : ℕ) → run_expression (calling unbound) applies call_of_g 0 bound_one steps ≡ applies fun_g (one ∷ []) steps
  unfolding then
  call_of_g-runs unbound applies steps =
      runs-Call unbound [] (arity_of (calling unbound)) applies None (codes "g") _ 0 bound_one steps
      ∙ ap (λ r. then (then r (λ v left. then (gives [] left) (λ vs rest. gives (v ∷ vs) rest))) (λ vs left. run_call unbound None (built_in (arity_of (calling unbound)) (codes "g") vs) (λ rest. applies (named_fun (codes "g") (length vs)) vs rest) left)) (runs-Var unbound [] (arity_of (calling unbound)) applies name_x 0 bound_one steps)

  -- a call of f with 1 calls g with 1
  calls_g-runs : (unbound : Outcome Value) (steps : ℕ) → apply (calling unbound) fun_f (one ∷ []) (suc steps) ≡ with_calls (record { name = codes "f"; args = one ∷ []; left = steps } ∷ []) (apply (calling unbound) fun_g (one ∷ []) steps)
  calls_g-runs unbound steps = f-applied unbound outside call_of_g steps ∙ ap (λ r. with_calls (record { name = codes "f"; args = one ∷ []; left = steps } ∷ []) r) (call_of_g-runs unbound (apply (calling unbound)) steps)

  g-outcome : (steps : ℕ) (unbound : Outcome Value) → (apply (calling unbound) fun_f (one ∷ []) (suc (suc steps))).outcome ≡ unbound
  g-outcome steps unbound = ap (λ r. r.outcome) (calls_g-runs unbound (suc steps)) ∙ ap (λ r. r.outcome) (apply-step (calling unbound) fun_g (one ∷ []) steps)

  pub an_absent_function-met : (steps : ℕ) → MeetsNoUnboundName calls_g outside fun_f (one ∷ []) (suc (suc steps)) → ⊥
  an_absent_function-met steps h = differ (λ unbound. apply (calling unbound) fun_f (one ∷ []) (suc (suc steps))) (g-outcome steps) h

  g-none : (unbound : Outcome Value) → apply (calling unbound) fun_f (one ∷ []) 1 ≡ with_calls (record { name = codes "f"; args = one ∷ []; left = 0 } ∷ []) (ends going 0)
  g-none unbound = calls_g-runs unbound 0 ∙ ap (λ r. with_calls (record { name = codes "f"; args = one ∷ []; left = 0 } ∷ []) r) (apply-none (calling unbound) fun_g (one ∷ []))

  pub an_absent_function-none_met : MeetsNoUnboundName calls_g outside fun_f (one ∷ []) 1
  an_absent_function-none_met unbound = g-none unbound ∙ sym (g-none wrong)

  -- ---- named funs

  pub named_funs-function : IsKnown gives_x outside fun_f
  named_funs-function = f-known (variable name_x)

  pub named_funs-other_name : IsKnown gives_x outside fun_g → ⊥
  named_funs-other_name h = false≢true h

  pub named_funs-other_arity : IsKnown gives_x outside (named_fun (codes "f") 2) → ⊥
  named_funs-other_arity h = false≢true (subst (λ arity. list_any (same_id (of_function (codes "f") 2)) (of_function (codes "f") arity ∷ []) ≡ true) (has-one (variable name_x)) h)

  pub named_funs-inside : IsKnown gives_x outside (cons one (cons fun_g nil)) → ⊥
  named_funs-inside h = named_funs-other_name h.1.0

pub no_unbound_name-right : HasRightNames gives_x
no_unbound_name-right = simp (part_equations, variables_equations, fault_equations, pattern_fault_equations)

-- ---- closures

-- Y is free in the fun expression
abbrev use_of_y : Occurrence
use_of_y = record { mark = record { name = name_y; place = place 1; role = Used }; sees = []; ended = [] }

y-occurs : (expr_part fun_of_y).occurrences ≡ use_of_y ∷ []
y-occurs = simp part_equations

fun-right : expr_faults [] [] fun_of_y ≡ []
fun-right = simp fault_equations

pub closures-variable : IsKnown small_module (fun_of_y ∷ []) (closure 0 (with_y one))
closures-variable = (record { right = fun-right; variables = subst (HasVariables (with_y one)) (sym y-occurs) ((λ free. refl), tt) }, (tt, tt))

pub closures-no_variable : IsKnown small_module (fun_of_y ∷ []) (closure 0 no_bindings) → ⊥
closures-no_variable h = false≢true (without (subst (HasVariables no_bindings) y-occurs h.0.variables))
  where
    without : HasVariables no_bindings (use_of_y ∷ []) → false ≡ true
    without k = k.0 refl

pub closures-unknown_value : IsKnown small_module (fun_of_y ∷ []) (closure 0 (with_y fun_g)) → ⊥
closures-unknown_value h = false≢true h.1.0

g-absent : expr_faults [] [] fun_of_g ≡ record { place = place 1; fault = NoSuchFunction } ∷ []
g-absent = simp fault_equations

pub closures-absent_function : IsKnown small_module (fun_of_g ∷ []) (closure 0 no_bindings) → ⊥
closures-absent_function h = no_fault (sym (h.0.right) ∙ g-absent)
  where
    no_fault : ◌≡◌ {A = List PlacedFault} [] (record { place = place 1; fault = NoSuchFunction } ∷ []) → ⊥
    no_fault e = absurd (cc)

pub closures-no_fun_expression : IsKnown small_module [] (closure 0 no_bindings)
closures-no_fun_expression = (tt, tt)
