-- Small modules whose function applies its argument, and closures of outside fun expressions.
use Rattle.std.proofs.Common.{◌≡◌, refl, sym, ap, ◌∙◌, subst, ℕ, zero, suc, pos, List, [], ◌∷◌, ◌++◌, ⊎_elim, arith}
use Rattle.std.specs.Prelude.{Some, None, false, codes, slice_get}
use Rattle.type_terms.specs.declared.spec.Arrow.{Arrow}
use Rattle.type_terms.specs.Definitions.{given_definitions}
use Rattle.type_terms.specs.Instances.{Instance, IsInstance, no_variables}
use Rattle.type_terms.proofs.Contained.{contains-none, contains-cases}
use Rattle.erl_tree.specs.declared.token.Node.{Node}
use Rattle.erl_tree.specs.declared.expr.ExprKind.{ExprKind, out-ExprKind}
use Rattle.erl_tree.specs.declared.expr.ExprKind.TheVariants as X
use Rattle.erl_tree.specs.Functions.{functions_of}
use Rattle.erl_runs.specs.Value.{Value, named_fun, Environment, no_bindings, came, Outcome, wrong, Run}
use Rattle.erl_runs.specs.Matching.{with_variable}
use Rattle.erl_runs.specs.Membership.{Program, InTerm, IsGoodRun, ends_well, values_in}
use Rattle.erl_runs.specs.Running.{Code, Applies, Does, gives, then, literal, behind, with_itself, is_fun_layer, with_calls, applies_nothing, arity_of, run_kind, run_expression, funs_in_functions, fun_arity, fun_layer_arity, run_closure, code_of, apply, program_of}
use Rattle.erl_runs.specs.Safety.{AlwaysIn, IsRightRun, IsSafe}
use Rattle.erl_runs.proofs.RunLaws.{expr_part, run_kind-Int, run_kind-Atom, run_kind-Var, run_kind-Apply, run_kind-Fun, item_kind-Value, choice_kind-roll, runs-Int, runs-Atom, runs-Var}
use Rattle.erl_runs.proofs.Equations.{in-Ints, in-Fun-iff}
use Rattle.erl_runs.proofs.BoundFree.{apply-none, apply-step}
use Rattle.erl_runs.proofs.SpentSteps.{spends}
use Rattle.examples_safety.specs.SmallSafety.{node, clause, clause_layer, module_of, variable, one_written, a_written, integers, arrow, integer_funs, app_spec, app_of_one, app_of_atom, fun_that_keeps, fun_that_breaks, first_closure, one, atom_a}
use Rattle.examples_safety.proofs.SmallRuns.{clause-runs, has-one, applied}
use Rattle.examples_safety.proofs.Safe.{code, program, to-safe, from-safe, none-right, argument-runs}

-- `F(E)`
abbrev pub applies_argument : Node ExprKind → Node ExprKind
applies_argument e = node (X.Apply (variable (codes "F")) (e ∷ []))

-- fun(X) -> E end
abbrev pub fun_to : Node ExprKind → Node ExprKind
fun_to e = node (X.Fun (clause (codes "X") e ∷ []))

-- ---- an argument that gives a value and has no fun expressions

module _ (e : Node ExprKind) (w : Value) (no_funs : (expr_part wrong [] (λ v. 0) applies_nothing e).funs ≡ [])
    (runs : (unbound : Outcome Value) (arity : Value → ℕ) (applies : Applies) (number : ℕ) (environment : Environment) (steps : ℕ) → (run_kind unbound [] arity applies e.kind).run number environment steps ≡ gives w steps) where
  abbrev app_code : List (Node ExprKind) → Code
  app_code outside = code_of (module_of (codes "app") (codes "F") (applies_argument e)) outside

  -- the function's body applies the argument to the value
  body-runs : (outside : List (Node ExprKind)) (applies : Applies) (f : Value) (steps : ℕ) → run_expression (app_code outside) applies (applies_argument e) 0 (with_variable (codes "F") f no_bindings) steps ≡ applies f (w ∷ []) steps
  unfolding then
  body-runs outside applies f steps =
      ap (λ (d : Does). d.run 0 (with_variable (codes "F") f no_bindings) steps) (run_kind-Apply wrong [] (arity_of (app_code outside)) applies (variable (codes "F")) (e ∷ []))
      ∙ (λ j. then (argument-runs (codes "F") (app_code outside) applies f steps j)
      (λ v left. then (then (runs wrong (arity_of (app_code outside)) applies (behind 0 (expr_part wrong [] (arity_of (app_code outside)) applies (variable (codes "F"))).funs) (with_variable (codes "F") f no_bindings) left j) (λ a rest. then (gives [] rest) (λ more r. gives (a ∷ more) r))) (λ vs rest. applies v vs rest)))

  app-runs : (outside : List (Node ExprKind)) (f : Value) (steps : ℕ) → apply (app_code outside) (named_fun (codes "app") 1) (f ∷ []) (suc steps) ≡ with_calls (record { name = codes "app"; args = f ∷ []; left = steps } ∷ []) (apply (app_code outside) f (w ∷ []) steps)
  app-runs outside f steps = applied (codes "app") (codes "F") (applies_argument e) refl outside f steps ∙ ap (λ r. with_calls (record { name = codes "app"; args = f ∷ []; left = steps } ∷ []) r) (body-runs outside (apply (app_code outside)) f steps)

  -- the module has no fun expressions of its own
  variable-funs : (expr_part wrong [] (λ v. 0) applies_nothing (variable (codes "F"))).funs ≡ []
  variable-funs = λ j. with_itself (is_fun_layer (X.outs-Var (codes "F") j)) (variable (codes "F")) (run_kind-Var wrong [] (λ v. 0) applies_nothing (codes "F") j).inner

  body-funs : (expr_part wrong [] (λ v. 0) applies_nothing (applies_argument e)).funs ≡ []
  body-funs = (λ j. with_itself (is_fun_layer (X.outs-Apply (variable (codes "F")) (e ∷ []) j)) (applies_argument e) (run_kind-Apply wrong [] (λ v. 0) applies_nothing (variable (codes "F")) (e ∷ []) j).inner)
      ∙ (λ j. variable-funs j ++ (no_funs j ++ []))

  module-funs : funs_in_functions (functions_of (module_of (codes "app") (codes "F") (applies_argument e))) ≡ []
  module-funs = (λ j. ((choice_kind-roll wrong [] (λ v. 0) applies_nothing (clause_layer (codes "F") (applies_argument e)) j).funs ++ []) ++ [])
      ∙ ((λ j. (((item_kind-Value wrong [] (λ v. 0) applies_nothing (applies_argument e) j).funs ++ []) ++ []) ++ [])
      ∙ (λ j. ((body-funs j ++ []) ++ []) ++ []))

  -- so the first is that from outside
  first-fun : (g : Node ExprKind) → slice_get (app_code (g ∷ [])).funs 0 ≡ Some g
  first-fun g = λ j. slice_get (module-funs j ++ ((g ∷ (run_kind wrong [] (λ v. 0) applies_nothing g.kind).inner) ++ [])) 0

  -- ---- the function

  abbrev app_program : List (Node ExprKind) → Program
  app_program outside = program_of (app_code outside) app_spec given_definitions

  integers-fall : (p : Program) (k m : ℕ) (v : Value) (i : Instance) → InTerm p k v integers given_definitions i → InTerm p m v integers given_definitions i
  integers-fall p k m v i h = (in-Ints p m given_definitions i v None None).1 ((in-Ints p k given_definitions i v None None).0 h)

  app-right : ((p : Program) (k : ℕ) (i : Instance) → InTerm p k w integers given_definitions i) → (outside : List (Node ExprKind)) (i : Instance) (args : List Value) (steps : ℕ) → IsInstance i → AlwaysIn (app_program outside) args (integer_funs ∷ []) i → IsRightRun (app_program outside) (apply (app_code outside) (named_fun (codes "app") 1) args steps) integers i
  app-right fits outside i [] steps instance h = absurd (h 0)
  app-right fits outside i (f ∷ g ∷ gs) steps instance h = absurd (h 0).1
  app-right fits outside i (f ∷ []) zero instance h = none-right (codes "app") (codes "F") (applies_argument e) app_spec outside (f ∷ []) integers i
  app-right fits outside i (f ∷ []) (suc zero) instance h =
      subst (λ (r : Run Value). IsRightRun (app_program outside) r integers i) (sym (app-runs outside f 0 ∙ ap (λ r. with_calls (record { name = codes "app"; args = f ∷ []; left = 0 } ∷ []) r) (apply-none (app_code outside) f (w ∷ []))))
      (record { good = (tt, ((λ n. n (arrow integer_funs integers) i (0, omega arith, refl) instance (h 0)), tt)); value = λ v same. cc })
  app-right fits outside i (f ∷ []) (suc (suc m)) instance h =
      let inside : _ = (in-Fun-iff (app_program outside) (spends (app_code outside) app_spec given_definitions) (suc m) given_definitions i (integers ∷ []) integers f).0 (h (suc m)).0 in
      let good : IsGoodRun (app_program outside) (apply (app_code outside) f (w ∷ []) (suc m)) integers given_definitions i = inside.2 m (w ∷ []) (omega arith) (fits (app_program outside) m i, tt) in
      subst (λ (r : Run Value). IsRightRun (app_program outside) r integers i) (sym (app-runs outside f (suc m)))
      (record {
        good = (good.0, ((λ n. n (arrow integer_funs integers) i (0, omega arith, refl) instance (h (suc m))), good.1));
        value = λ v same k. integers-fall (app_program outside) (apply (app_code outside) f (w ∷ []) (suc m)).left k v i (subst (λ o. ends_well o (λ u. InTerm (app_program outside) (apply (app_code outside) f (w ∷ []) (suc m)).left u integers given_definitions i)) same good.0);
      })

  -- ---- closures of an outside fun expression

  module _ (b : Node ExprKind) where
    abbrev code_with_fun : Code
    code_with_fun = app_code (fun_to b ∷ [])

    abbrev program_with_fun : Program
    program_with_fun = app_program (fun_to b ∷ [])

    closure-runs : (v : Value) (steps : ℕ) → apply code_with_fun first_closure (v ∷ []) (suc steps) ≡ run_expression code_with_fun (apply code_with_fun) b 1 (with_variable (codes "X") v no_bindings) steps
    closure-runs v steps = apply-step code_with_fun first_closure (v ∷ []) steps
        ∙ (ap (λ o. run_closure code_with_fun (apply code_with_fun) o 0 no_bindings (v ∷ []) steps) (first-fun (fun_to b))
        ∙ (ap (λ (d : Does). d.enter 1 no_bindings (v ∷ []) steps) (run_kind-Fun wrong [] (arity_of code_with_fun) (apply code_with_fun) (clause (codes "X") b ∷ []))
        ∙ clause-runs (codes "X") b refl wrong [] (arity_of code_with_fun) (apply code_with_fun) 1 v steps))

    closure-arity : arity_of code_with_fun first_closure ≡ 1
    closure-arity = ap (λ o. fun_arity o) (first-fun (fun_to b)) ∙ (ap (λ l. fun_layer_arity l) (X.outs-Fun (clause (codes "X") b ∷ [])) ∙ has-one (codes "g") (codes "X") b)

    closure-inside : ((v : Value) (steps : ℕ) → InTerm program_with_fun steps v integers given_definitions no_variables → IsGoodRun program_with_fun (run_expression code_with_fun (apply code_with_fun) b 1 (with_variable (codes "X") v no_bindings) steps) integers given_definitions no_variables) →
        (k : ℕ) → InTerm program_with_fun k first_closure integer_funs given_definitions no_variables
    closure-inside good k = (in-Fun-iff program_with_fun (spends code_with_fun app_spec given_definitions) k given_definitions no_variables (integers ∷ []) integers first_closure).1 (tt, closure-arity, λ m args l a. go m args a)
      where
        go : (m : ℕ) (args : List Value) → values_in (InTerm program_with_fun m) args (integers ∷ []) given_definitions no_variables → IsGoodRun program_with_fun (apply code_with_fun first_closure args (suc m)) integers given_definitions no_variables
        go m [] a = absurd a
        go m (v ∷ u ∷ us) a = absurd a.1
        go m (v ∷ []) a = subst (λ (r : Run Value). IsGoodRun program_with_fun r integers given_definitions no_variables) (sym (closure-runs v m)) (good v m a.0)

-- ---- the examples

leaf-funs : (e : Node ExprKind) (w : Value) → is_fun_layer (out-ExprKind e.kind) ≡ false → run_kind wrong [] (λ v. 0) applies_nothing e.kind ≡ literal w → (expr_part wrong [] (λ v. 0) applies_nothing e).funs ≡ []
leaf-funs e w h k = λ j. with_itself (h j) e (k j).inner

one-funs : (expr_part wrong [] (λ v. 0) applies_nothing one_written).funs ≡ []
one-funs = leaf-funs one_written one (ap (λ l. is_fun_layer l) (X.outs-Int (pos 1))) (run_kind-Int wrong [] (λ v. 0) applies_nothing (pos 1))

one-runs : (unbound : Outcome Value) (arity : Value → ℕ) (applies : Applies) (number : ℕ) (environment : Environment) (steps : ℕ) → (run_kind unbound [] arity applies one_written.kind).run number environment steps ≡ gives one steps
one-runs unbound arity applies number environment steps = runs-Int unbound [] arity applies (pos 1) number environment steps

a-funs : (expr_part wrong [] (λ v. 0) applies_nothing a_written).funs ≡ []
a-funs = leaf-funs a_written atom_a (ap (λ l. is_fun_layer l) (X.outs-Atom (codes "a"))) (run_kind-Atom wrong [] (λ v. 0) applies_nothing (codes "a"))

a-runs : (unbound : Outcome Value) (arity : Value → ℕ) (applies : Applies) (number : ℕ) (environment : Environment) (steps : ℕ) → (run_kind unbound [] arity applies a_written.kind).run number environment steps ≡ gives atom_a steps
a-runs unbound arity applies number environment steps = runs-Atom unbound [] arity applies (codes "a") number environment steps

-- the variable of a fun, whose body has the number 1
variable-runs : (code : Code) (applies : Applies) (v : Value) (steps : ℕ) → run_expression code applies (variable (codes "X")) 1 (with_variable (codes "X") v no_bindings) steps ≡ gives v steps
variable-runs code applies v steps = runs-Var _ _ _ applies (codes "X") 1 (with_variable (codes "X") v no_bindings) steps ∙ refl

pub fun-kept : (k : ℕ) → InTerm (program_of (code_of app_of_one (fun_that_keeps ∷ [])) app_spec given_definitions) k first_closure integer_funs given_definitions no_variables
fun-kept = closure-inside one_written one one-funs one-runs (variable (codes "X")) (λ v steps h. subst (λ (r : Run Value). IsGoodRun (program_of (code_of app_of_one (fun_that_keeps ∷ [])) app_spec given_definitions) r integers given_definitions no_variables) (sym (variable-runs (code_of app_of_one (fun_that_keeps ∷ [])) (apply (code_of app_of_one (fun_that_keeps ∷ []))) v steps)) (h, tt))

pub fun-broken : (k : ℕ) → InTerm (program_of (code_of app_of_one (fun_that_breaks ∷ [])) app_spec given_definitions) (suc k) first_closure integer_funs given_definitions no_variables → ⊥
fun-broken k h =
    let p : Program = program_of (code_of app_of_one (fun_that_breaks ∷ [])) app_spec given_definitions in
    let inside : _ = (in-Fun-iff p (spends (code_of app_of_one (fun_that_breaks ∷ [])) app_spec given_definitions) (suc k) given_definitions no_variables (integers ∷ []) integers first_closure).0 h in
    let good : IsGoodRun p (apply (code_of app_of_one (fun_that_breaks ∷ [])) first_closure (one ∷ []) 1) integers given_definitions no_variables = inside.2 0 (one ∷ []) (omega arith) (refl, tt) in
    (subst (λ (r : Run Value). IsGoodRun p r integers given_definitions no_variables) (closure-runs one_written one one-funs one-runs a_written one 0 ∙ a-runs _ _ _ 1 (with_variable (codes "X") one no_bindings) 0) good).0

pub app-kept : IsSafe app_of_one app_spec given_definitions
app-kept = to-safe (codes "app") (codes "F") (applies_argument one_written) app_spec (λ outside a i args steps c instance.
    subst (λ (b : Arrow). AlwaysIn (program (codes "app") (codes "F") (applies_argument one_written) app_spec outside) args b.params i → IsRightRun (program (codes "app") (codes "F") (applies_argument one_written) app_spec outside) (apply (code (codes "app") (codes "F") (applies_argument one_written) app_spec outside) (named_fun (codes "app") 1) args steps) b.result i)
    (⊎_elim (λ (p : arrow integer_funs integers ≡ a). p) (λ n. absurd (contains-none a n)) (contains-cases (arrow integer_funs integers) a [] c))
    (app-right one_written one one-funs one-runs (λ p k j. refl) outside i args steps instance))

pub keeps-inside : (k : ℕ) → InTerm (program_of (code_of app_of_atom (fun_that_keeps ∷ [])) app_spec given_definitions) k first_closure integer_funs given_definitions no_variables
keeps-inside = closure-inside a_written atom_a a-funs a-runs (variable (codes "X")) (λ v steps h. subst (λ (r : Run Value). IsGoodRun (program_of (code_of app_of_atom (fun_that_keeps ∷ [])) app_spec given_definitions) r integers given_definitions no_variables) (sym (variable-runs (code_of app_of_atom (fun_that_keeps ∷ [])) (apply (code_of app_of_atom (fun_that_keeps ∷ []))) v steps)) (h, tt))

pub gives-atom : (apply (code_of app_of_atom (fun_that_keeps ∷ [])) (named_fun (codes "app") 1) (first_closure ∷ []) 2).outcome ≡ came atom_a
gives-atom = ap (λ (r : Run Value). r.outcome) (app-runs a_written atom_a a-funs a-runs (fun_that_keeps ∷ []) first_closure 1)
    ∙ ap (λ (r : Run Value). r.outcome) (closure-runs a_written atom_a a-funs a-runs (variable (codes "X")) atom_a 0 ∙ variable-runs (code_of app_of_atom (fun_that_keeps ∷ [])) (apply (code_of app_of_atom (fun_that_keeps ∷ []))) atom_a 0)

pub app-broken : IsSafe app_of_atom app_spec given_definitions → ⊥
app-broken h =
    let c : Code = code_of app_of_atom (fun_that_keeps ∷ []) in
    let r : IsRightRun (program_of c app_spec given_definitions) (apply c (named_fun (codes "app") 1) (first_closure ∷ []) 2) integers no_variables =
    from-safe (codes "app") (codes "F") (applies_argument a_written) app_spec h (fun_that_keeps ∷ []) (arrow integer_funs integers) no_variables (first_closure ∷ []) 2 (0, omega arith, refl) tt (λ k. (keeps-inside k, tt)) in
    r.value atom_a gives-atom 0
