-- The function of the one text is safe, and that of the other isn't.
use Rattle.std.proofs.Common.{◌≡◌, refl, sym, ap, ◌∙◌, subst, ℕ, zero, suc, pos, List, [], ◌∷◌, length, inl, inr, ⊎_elim, arith}
use Rattle.std.specs.Prelude.{Some, None as Open, cond, nat_eq, codes}
use Rattle.std.specs.List.{Contains}
use Rattle.type_terms.specs.declared.spec.Arrow.{Arrow}
use Rattle.type_terms.specs.declared.term.Term.{Term, Ints}
use Rattle.type_terms.specs.Instances.{Instance, IsInstance, no_variables}
use Rattle.type_terms.proofs.Contained.{contains-none, contains-cases}
use Rattle.erl_tree.specs.declared.token.Node.{Node}
use Rattle.erl_tree.specs.declared.expr.ExprKind.{ExprKind}
use Rattle.erl_tree.specs.declared.expr.ExprKind.TheVariants as X
use Rattle.erl_tree.specs.declared.expr.ItemKind.TheVariants as I
use Rattle.erl_tree.specs.declared.expr.ClauseKind.{roll-ClauseKind, out-roll-ClauseKind}
use Rattle.erl_tree.specs.declared.form.Function.{Function}
use Rattle.erl_tree.specs.Functions.{clauses_arity}
use Rattle.erl_tree.specs.SmallText.{place}
use Rattle.erl_grammar.specs.Grammar.{node}
use Rattle.erl_runs.specs.Value.{Value, integer, atom, named_fun, no_bindings, wrong, came, Run}
use Rattle.erl_runs.specs.Matching.{with_variable, Match, match_next, match_patterns}
use Rattle.erl_runs.specs.Membership.{Program, InTerm, arrows_of}
use Rattle.erl_runs.specs.Running.{Code, Applies, gives, with_calls, arity_of, run_expression, run_function, find_numbered, code_of, apply, program_of}
use Rattle.erl_runs.specs.Safety.{AlwaysIn, IsRightRun, IsSafe}
use Rattle.erl_runs.proofs.MatchLaws.{match_kind-Var}
use Rattle.erl_runs.proofs.RunLaws.{run_bound, one_clause-runs, runs-Atom, runs-Var}
use Rattle.erl_runs.proofs.BoundFree.{apply-none, apply-step}
use Rattle.examples_texts.specs.SmallTexts.{body, clause_layer, function_written, module_with, module_that_keeps, module_that_breaks, its_specs}

abbrev integers : Term
integers = Ints Open Open

abbrev its_arrow : Arrow
its_arrow = record { params = integers ∷ []; result = integers }

module _ (e : ExprKind) where
  abbrev code : List (Node ExprKind) → Code
  code outside = code_of (module_with e) outside

  abbrev program : List (Node ExprKind) → Program
  program outside = program_of (code outside) its_specs.functions its_specs.defs

  has-one : clauses_arity (function_written e).clauses ≡ 1
  has-one = ap (λ l. length l.patterns) (out-roll-ClauseKind (clause_layer e))

  found : (fs : List (Function × ℕ)) → find_numbered ((function_written e, 0) ∷ fs) (codes "f") 1 ≡ Some (function_written e, 0)
  found fs = λ j. cond (nat_eq (has-one j) 1) (Some (function_written e, 0)) (find_numbered fs (codes "f") 1)

  -- the body is run with the argument for X
  function-runs : (outside : List (Node ExprKind)) (v : Value) (steps : ℕ) → run_function (code outside) (apply (code outside)) (Some (function_written e, 0)) (v ∷ []) steps ≡ run_expression (code outside) (apply (code outside)) (body e) 0 (with_variable (codes "X") v no_bindings) steps
  function-runs outside v steps =
      one_clause-runs wrong [] (arity_of (code outside)) (apply (code outside)) (roll-ClauseKind (clause_layer e)) (clause_layer e).patterns (node (place 54) [] (I.Value (body e))) (body e) (out-roll-ClauseKind (clause_layer e)) refl 0 (v ∷ []) steps
      ∙ ap (λ (m : Match). run_bound wrong [] (arity_of (code outside)) (apply (code outside)) (match_next (m v no_bindings) (match_patterns [] [] [])) (λ environment. run_expression (code outside) (apply (code outside)) (body e) 0 environment steps) steps) (match_kind-Var [] (codes "X"))

  applied : (outside : List (Node ExprKind)) (v : Value) (steps : ℕ) → apply (code outside) (named_fun (codes "f") 1) (v ∷ []) (suc steps) ≡ with_calls (record { name = codes "f"; args = v ∷ []; left = steps } ∷ []) (run_expression (code outside) (apply (code outside)) (body e) 0 (with_variable (codes "X") v no_bindings) steps)
  applied outside v steps =
      apply-step (code outside) (named_fun (codes "f") 1) (v ∷ []) steps
      ∙ ap (λ r. with_calls (record { name = codes "f"; args = v ∷ []; left = steps } ∷ []) r)
      (ap (λ o. run_function (code outside) (apply (code outside)) o (v ∷ []) steps) (found []) ∙ function-runs outside v steps)

  -- what safety says of the function with this arity
  abbrev IsRightAt : ℕ → Type 0
  IsRightAt arity =
      (outside : List (Node ExprKind)) (a : Arrow) (i : Instance) (args : List Value) (steps : ℕ) → Contains (arrows_of its_specs.functions (codes "f") arity) a → IsInstance i →
      AlwaysIn (program outside) args a.params i → IsRightRun (program outside) (apply (code outside) (named_fun (codes "f") arity) args steps) a.result i

  to-safe : IsRightAt 1 → IsSafe (module_with e) its_specs.functions its_specs.defs
  to-safe h outside f a i args steps (inl same) =
      subst (λ (g : Function). Contains (arrows_of its_specs.functions g.name (clauses_arity g.clauses)) a → IsInstance i → AlwaysIn (program outside) args a.params i → IsRightRun (program outside) (apply (code outside) (named_fun g.name (clauses_arity g.clauses)) args steps) a.result i)
      (sym same) (subst (λ n. IsRightAt n) (sym has-one) h outside a i args steps)
  to-safe h outside f a i args steps (inr none) = absurd none

  from-safe : IsSafe (module_with e) its_specs.functions its_specs.defs → IsRightAt 1
  from-safe h = subst (λ n. IsRightAt n) has-one (λ outside a i args steps. h outside (function_written e) a i args steps (inl refl))

-- ---- X

argument-runs : (code : Code) (applies : Applies) (v : Value) (steps : ℕ) → run_expression code applies (body (X.Var (codes "X"))) 0 (with_variable (codes "X") v no_bindings) steps ≡ gives v steps
argument-runs code applies v steps = runs-Var _ _ _ applies (codes "X") 0 (with_variable (codes "X") v no_bindings) steps

keeps-runs : (outside : List (Node ExprKind)) (v : Value) (steps : ℕ) → apply (code (X.Var (codes "X")) outside) (named_fun (codes "f") 1) (v ∷ []) (suc steps) ≡ record { outcome = came v; left = steps; calls = record { name = codes "f"; args = v ∷ []; left = steps } ∷ [] }
keeps-runs outside v steps = applied (X.Var (codes "X")) outside v steps ∙ ap (λ r. with_calls (record { name = codes "f"; args = v ∷ []; left = steps } ∷ []) r) (argument-runs (code (X.Var (codes "X")) outside) (apply (code (X.Var (codes "X")) outside)) v steps)

keeps-right : (outside : List (Node ExprKind)) (i : Instance) (args : List Value) (steps : ℕ) → IsInstance i → AlwaysIn (program (X.Var (codes "X")) outside) args (integers ∷ []) i → IsRightRun (program (X.Var (codes "X")) outside) (apply (code (X.Var (codes "X")) outside) (named_fun (codes "f") 1) args steps) integers i
keeps-right outside i [] steps instance h = absurd (h 0)
keeps-right outside i (v ∷ w ∷ vs) steps instance h = absurd (h 0).1
keeps-right outside i (v ∷ []) zero instance h =
    subst (λ (r : Run Value). IsRightRun (program (X.Var (codes "X")) outside) r integers i) (sym (apply-none (code (X.Var (codes "X")) outside) (named_fun (codes "f") 1) (v ∷ []))) (record { good = (tt, tt); value = λ w same. cc })
keeps-right outside i (v ∷ []) (suc steps) instance h =
    subst (λ (r : Run Value). IsRightRun (program (X.Var (codes "X")) outside) r integers i) (sym (keeps-runs outside v steps)) (record {
      good = ((h steps).0, ((λ n. n its_arrow i (0, omega arith, refl) instance (h steps)), tt));
      value = λ w same k. subst (λ z. InTerm (program (X.Var (codes "X")) outside) k z integers its_specs.defs i) (came-same same) (h k).0;
    })
  where
    came-same : {a b : Value} → came a ≡ came b → a ≡ b
    came-same p = cc

pub keeps-safe : IsSafe module_that_keeps its_specs.functions its_specs.defs
keeps-safe = to-safe (X.Var (codes "X")) (λ outside a i args steps c instance.
    subst (λ (b : Arrow). AlwaysIn (program (X.Var (codes "X")) outside) args b.params i → IsRightRun (program (X.Var (codes "X")) outside) (apply (code (X.Var (codes "X")) outside) (named_fun (codes "f") 1) args steps) b.result i)
    (⊎_elim (λ (p : its_arrow ≡ a). p) (λ n. absurd (contains-none a n)) (contains-cases its_arrow a [] c))
    (keeps-right outside i args steps instance))

-- ---- a

breaks-runs : (apply (code (X.Atom (codes "a")) []) (named_fun (codes "f") 1) (integer (pos 0) ∷ []) 1).outcome ≡ came (atom (codes "a"))
breaks-runs = ap (λ (r : Run Value). r.outcome) (applied (X.Atom (codes "a")) [] (integer (pos 0)) 0) ∙ ap (λ (r : Run Value). r.outcome) (runs-Atom wrong [] _ (apply (code (X.Atom (codes "a")) [])) (codes "a") 0 (with_variable (codes "X") (integer (pos 0)) no_bindings) 0)

pub breaks-not-safe : IsSafe module_that_breaks its_specs.functions its_specs.defs → ⊥
breaks-not-safe h =
    let r : IsRightRun (program (X.Atom (codes "a")) []) (apply (code (X.Atom (codes "a")) []) (named_fun (codes "f") 1) (integer (pos 0) ∷ []) 1) integers no_variables =
    from-safe (X.Atom (codes "a")) h [] its_arrow no_variables (integer (pos 0) ∷ []) 1 (0, omega arith, refl) tt (λ k. (refl, tt)) in
    r.value (atom (codes "a")) breaks-runs 0
