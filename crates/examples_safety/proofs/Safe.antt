-- Small modules that are safe, and that aren't.
use Rattle.std.proofs.Common.{◌≡◌, refl, sym, ap, ◌∙◌, subst, ℕ, zero, suc, pos, List, [], ◌∷◌, inl, inr, ⊎_elim, arith}
use Rattle.std.specs.Prelude.{Option, true, false, codes}
use Rattle.std.specs.List.{Contains}
use Rattle.type_terms.specs.declared.term.Def.{Def}
use Rattle.type_terms.specs.declared.term.Field.{Field}
use Rattle.type_terms.specs.declared.term.Term.{Term, AnyAtom, Map, Var}
use Rattle.type_terms.specs.declared.term.Term.TheViews as Views
use Rattle.type_terms.specs.declared.spec.Arrow.{Arrow}
use Rattle.type_terms.specs.declared.spec.FunSpec.{FunSpec}
use Rattle.type_terms.specs.Definitions.{given_definitions, FieldsAscend}
use Rattle.type_terms.specs.Instances.{Instance, IsInstance, no_variables}
use Rattle.type_terms.specs.Keys.{Name, ascending, any_atom}
use Rattle.type_terms.specs.declared.term.Key.TheVariants.{Atom as AtomKey}
use Rattle.type_terms.specs.Parts.{layer_children, layer_positive_children, field_keys}
use Rattle.type_terms.specs.Signs.{IsWellSigned}
use Rattle.type_terms.proofs.Contained.{contains-none, contains-cases}
use Rattle.type_terms.proofs.PartLaws.{kind_number, each-part, under-step}
use Rattle.type_terms.proofs.SmallCases.{Kept, kept-even, no-names, no-name-leaf, well-signed, no-definitions, integers-instance}
use Rattle.erl_tree.specs.declared.token.Node.{Node}
use Rattle.erl_tree.specs.declared.expr.ExprKind.{ExprKind}
use Rattle.erl_tree.specs.declared.form.Function.{Function}
use Rattle.erl_tree.specs.Functions.{clauses_arity}
use Rattle.erl_runs.specs.Names.{is_wildcard}
use Rattle.erl_runs.specs.Value.{Value, integer, named_fun, no_bindings, came, Run}
use Rattle.erl_runs.specs.Matching.{with_variable}
use Rattle.erl_runs.specs.Membership.{Program, InTerm, arrows_of}
use Rattle.erl_runs.specs.Running.{Code, Applies, ends, meaning, gives, with_calls, run_expression, code_of, apply, program_of}
use Rattle.erl_runs.specs.Safety.{AlwaysIn, IsRightRun, IsSafe}
use Rattle.erl_runs.proofs.FiniteMapLaws.{get-insert_same}
use Rattle.erl_runs.proofs.RunLaws.{runs-Int, runs-Var}
use Rattle.erl_runs.proofs.Equations.{in-Var}
use Rattle.erl_runs.proofs.BoundFree.{apply-none}
use Rattle.examples_safety.specs.SmallSafety.{function, module_of, variable, zero_written, integers, arrow, first_clause, both_clauses, f_gives_argument, f_gives_zero, identity_spec, id_gives_argument, id_gives_zero, integers_for_a, atoms_for_a, atom_a}
use Rattle.examples_safety.proofs.SmallRuns.{has-one, applied}

-- ---- what safety says of a module of one function

module _ (name x : Name) (e : Node ExprKind) (specs : List FunSpec) where
  abbrev pub code : List (Node ExprKind) → Code
  code outside = code_of (module_of name x e) outside

  abbrev pub program : List (Node ExprKind) → Program
  program outside = program_of (code outside) specs given_definitions

  -- what it says of the function with this name and arity
  abbrev IsRightAt : Name → ℕ → Type 0
  IsRightAt f arity =
      (outside : List (Node ExprKind)) (a : Arrow) (i : Instance) (args : List Value) (steps : ℕ) → Contains (arrows_of specs f arity) a → IsInstance i →
      AlwaysIn (program outside) args a.params i → IsRightRun (program outside) (apply (code outside) (named_fun f arity) args steps) a.result i

  pub to-safe : IsRightAt name 1 → IsSafe (module_of name x e) specs given_definitions
  to-safe h outside f a i args steps (inl same) =
      subst (λ (g : Function). Contains (arrows_of specs g.name (clauses_arity g.clauses)) a → IsInstance i → AlwaysIn (program outside) args a.params i → IsRightRun (program outside) (apply (code outside) (named_fun g.name (clauses_arity g.clauses)) args steps) a.result i)
      (sym same) (subst (λ n. IsRightAt name n) (sym (has-one name x e)) h outside a i args steps)
  to-safe h outside f a i args steps (inr none) = absurd none

  pub from-safe : IsSafe (module_of name x e) specs given_definitions → IsRightAt name 1
  from-safe h = subst (λ n. IsRightAt name n) (has-one name x e) (λ outside a i args steps. h outside (function name x e) a i args steps (inl refl))

  -- a run without steps
  pub none-right : (outside : List (Node ExprKind)) (args : List Value) (u : Term) (i : Instance) → IsRightRun (program outside) (apply (code outside) (named_fun name 1) args zero) u i
  none-right outside args u i = subst (λ (r : Run Value). IsRightRun (program outside) r u i) (sym (apply-none (code outside) (named_fun name 1) args)) (record { good = (tt, tt); value = λ v same. cc })

  -- ---- a body that gives a value at once

  module _ (named : is_wildcard x ≡ false) (g : Value → Value)
      (runs : (code : Code) (applies : Applies) (v : Value) (steps : ℕ) → run_expression code applies e 0 (with_variable x v no_bindings) steps ≡ gives (g v) steps) where
    pub value-runs : (outside : List (Node ExprKind)) (v : Value) (steps : ℕ) → apply (code outside) (named_fun name 1) (v ∷ []) (suc steps) ≡ record { outcome = came (g v); left = steps; calls = record { name = name; args = v ∷ []; left = steps } ∷ [] }
    value-runs outside v steps = applied name x e named outside v steps ∙ ap (λ r. with_calls (record { name = name; args = v ∷ []; left = steps } ∷ []) r) (runs (code outside) (apply (code outside)) v steps)

    value-right : (outside : List (Node ExprKind)) (t u : Term) (i : Instance) (args : List Value) (steps : ℕ) → Contains (arrows_of specs name 1) (arrow t u) → IsInstance i →
        ((v : Value) (k : ℕ) → InTerm (program outside) k v t given_definitions i → InTerm (program outside) k (g v) u given_definitions i) →
        AlwaysIn (program outside) args (t ∷ []) i → IsRightRun (program outside) (apply (code outside) (named_fun name 1) args steps) u i
    value-right outside t u i [] steps c instance keeps h = absurd (h 0)
    value-right outside t u i (v ∷ w ∷ vs) steps c instance keeps h = absurd (h 0).1
    value-right outside t u i (v ∷ []) zero c instance keeps h = none-right outside (v ∷ []) u i
    value-right outside t u i (v ∷ []) (suc steps) c instance keeps h =
        subst (λ (r : Run Value). IsRightRun (program outside) r u i) (sym (value-runs outside v steps)) (record {
          good = (keeps v steps (h steps).0, ((λ n. n (arrow t u) i c instance (h steps)), tt));
          value = λ w same k. subst (λ z. InTerm (program outside) k z u given_definitions i) (came-same same) (keeps v k (h k).0);
        })
      where
        came-same : {a b : Value} → came a ≡ came b → a ≡ b
        came-same p = cc

-- ---- expressions

pub argument-runs : (x : Name) (code : Code) (applies : Applies) (v : Value) (steps : ℕ) → run_expression code applies (variable x) 0 (with_variable x v no_bindings) steps ≡ gives v steps
argument-runs x code applies v steps = runs-Var _ _ _ applies x 0 (with_variable x v no_bindings) steps ∙ ap (λ o. ends (meaning code.unbound o) steps) (get-insert_same {b = any_atom} (AtomKey x) refl v no_bindings)

zero-runs : (x : Name) (code : Code) (applies : Applies) (v : Value) (steps : ℕ) → run_expression code applies zero_written 0 (with_variable x v no_bindings) steps ≡ gives (integer (pos 0)) steps
zero-runs x code applies v steps = runs-Int _ _ _ applies (pos 0) 0 (with_variable x v no_bindings) steps

-- ---- a spec of two clauses

-- the arrows of both clauses have one term on both sides
both-same : (a : Arrow) → Contains (arrows_of both_clauses (codes "f") 1) a → (t : Term) × (arrow t t ≡ a)
both-same a c = ⊎_elim (λ (p : arrow integers integers ≡ a). (integers, p)) (λ (c : Contains (arrow AnyAtom AnyAtom ∷ []) a). (AnyAtom, ⊎_elim (λ (p : arrow AnyAtom AnyAtom ≡ a). p) (λ n. absurd (contains-none a n)) (contains-cases (arrow AnyAtom AnyAtom) a [] c))) (contains-cases (arrow integers integers) a (arrow AnyAtom AnyAtom ∷ []) c)

-- what gives its argument back is safe for a spec whose arrows have one term on both sides
identity-safe : (name x : Name) → is_wildcard x ≡ false → (specs : List FunSpec) → ((a : Arrow) → Contains (arrows_of specs name 1) a → (t : Term) × (arrow t t ≡ a)) → IsSafe (module_of name x (variable x)) specs given_definitions
identity-safe name x named specs same = to-safe name x (variable x) specs (λ outside a i args steps c instance.
    let s : (t : Term) × (arrow t t ≡ a) = same a c in
    subst (λ (b : Arrow). Contains (arrows_of specs name 1) b → AlwaysIn (program name x (variable x) specs outside) args b.params i → IsRightRun (program name x (variable x) specs outside) (apply (code name x (variable x) specs outside) (named_fun name 1) args steps) b.result i) s.1
    (λ d. value-right name x (variable x) specs named (λ v. v) (argument-runs x) outside s.0 s.0 i args steps d instance (λ v k h. h)) c)

pub f-kept : IsSafe f_gives_argument both_clauses given_definitions
f-kept = identity-safe (codes "f") (codes "X") refl both_clauses both-same

pub f-first : IsSafe f_gives_zero first_clause given_definitions
f-first = to-safe (codes "f") (codes "X") zero_written first_clause (λ outside a i args steps c instance.
    subst (λ (b : Arrow). Contains (arrows_of first_clause (codes "f") 1) b → AlwaysIn (program (codes "f") (codes "X") zero_written first_clause outside) args b.params i → IsRightRun (program (codes "f") (codes "X") zero_written first_clause outside) (apply (code (codes "f") (codes "X") zero_written first_clause outside) (named_fun (codes "f") 1) args steps) b.result i)
    (⊎_elim (λ (p : arrow integers integers ≡ a). p) (λ n. absurd (contains-none a n)) (contains-cases (arrow integers integers) a [] c))
    (λ d. value-right (codes "f") (codes "X") zero_written first_clause refl (λ v. integer (pos 0)) (zero-runs (codes "X")) outside integers integers i args steps d instance (λ v k h. refl)) c)

pub f-broken : IsSafe f_gives_zero both_clauses given_definitions → ⊥
f-broken h =
    let r : IsRightRun (program (codes "f") (codes "X") zero_written both_clauses []) (apply (code (codes "f") (codes "X") zero_written both_clauses []) (named_fun (codes "f") 1) (atom_a ∷ []) 1) AnyAtom no_variables =
    from-safe (codes "f") (codes "X") zero_written both_clauses h [] (arrow AnyAtom AnyAtom) no_variables (atom_a ∷ []) 1 (1, omega arith, refl) tt (λ k. (tt, tt)) in
    r.value (integer (pos 0)) (ap (λ (r : Run Value). r.outcome) (value-runs (codes "f") (codes "X") zero_written both_clauses refl (λ v. integer (pos 0)) (zero-runs (codes "X")) [] atom_a 0)) 0

-- ---- a spec with a type variable

any_atom-signed : (defs : List Def) → IsWellSigned defs AnyAtom
any_atom-signed defs = well-signed defs AnyAtom (no-names defs _ (no-name-leaf AnyAtom (ap layer_children Views.outs-AnyAtom) (λ e. omega arith)))
    (under-step defs Kept AnyAtom [] (ap layer_positive_children Views.outs-AnyAtom) (λ e. omega arith) (λ e. omega arith) (kept-even AnyAtom) (λ c k. absurd (contains-none c k)))

abbrev MapAscends : Term → Type 0
MapAscends p = (fields : List Field) (rest_int rest_atom : Option Term) → p ≡ Map fields rest_int rest_atom → ascending (field_keys fields) ≡ true

any_atom-fields : FieldsAscend AnyAtom
any_atom-fields fields rest_int rest_atom part =
    each-part MapAscends AnyAtom [] (ap layer_children Views.outs-AnyAtom) (λ fs r q e. let f : kind_number AnyAtom ≡ 9 = ap kind_number e in absurd (omega arith)) (λ c k. absurd (contains-none c k)) _ part fields rest_int rest_atom refl

pub atoms-instance : IsInstance atoms_for_a
atoms-instance = (no-definitions, any_atom-signed [], any_atom-fields, tt, tt)

identity-same : (a : Arrow) → Contains (arrows_of identity_spec (codes "id") 1) a → (t : Term) × (arrow t t ≡ a)
identity-same a c = (Var 0, ⊎_elim (λ (p : arrow (Var 0) (Var 0) ≡ a). p) (λ n. absurd (contains-none a n)) (contains-cases (arrow (Var 0) (Var 0)) a [] c))

pub id-kept : IsSafe id_gives_argument identity_spec given_definitions
id-kept = identity-safe (codes "id") (codes "X") refl identity_spec identity-same

pub id-broken : IsSafe id_gives_zero identity_spec given_definitions → ⊥
id-broken h =
    let p : Program = program (codes "id") (codes "X") zero_written identity_spec [] in
    let r : IsRightRun p (apply (code (codes "id") (codes "X") zero_written identity_spec []) (named_fun (codes "id") 1) (atom_a ∷ []) 1) (Var 0) atoms_for_a =
    from-safe (codes "id") (codes "X") zero_written identity_spec h [] (arrow (Var 0) (Var 0)) atoms_for_a (atom_a ∷ []) 1 (0, omega arith, refl) atoms-instance (λ k. ((in-Var p k given_definitions atom_a 0 AnyAtom [] no_variables no_variables).1 tt, tt)) in
    (in-Var p 0 given_definitions (integer (pos 0)) 0 AnyAtom [] no_variables no_variables).0
    (r.value (integer (pos 0)) (ap (λ (r : Run Value). r.outcome) (value-runs (codes "id") (codes "X") zero_written identity_spec refl (λ v. integer (pos 0)) (zero-runs (codes "X")) [] atom_a 0)) 0)

pub id-right : (outside : List (Node ExprKind)) (args : List Value) (steps : ℕ) → AlwaysIn (program (codes "id") (codes "X") zero_written identity_spec outside) args (Var 0 ∷ []) integers_for_a → IsRightRun (program (codes "id") (codes "X") zero_written identity_spec outside) (apply (code (codes "id") (codes "X") zero_written identity_spec outside) (named_fun (codes "id") 1) args steps) (Var 0) integers_for_a
id-right outside args steps h = value-right (codes "id") (codes "X") zero_written identity_spec refl (λ v. integer (pos 0)) (zero-runs (codes "X")) outside (Var 0) (Var 0) integers_for_a args steps (0, omega arith, refl) (integers-instance 0)
    (λ v k a. (in-Var (program (codes "id") (codes "X") zero_written identity_spec outside) k given_definitions (integer (pos 0)) 0 integers [] no_variables no_variables).1 refl) h
