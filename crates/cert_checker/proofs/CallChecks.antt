-- What is found of a call, in each setting.
use Rattle.std.proofs.Common.{◌≡◌, sym, ◌∙◌, ap, subst, ℕ, ◌+◌, List, [], ◌∷◌, length}
use Rattle.std.specs.Prelude.{Bool, Some, None, slice_get, if◌then◌else◌}
use Rattle.type_terms.specs.declared.term.Term.{Term, Any, And, Fun}
use Rattle.type_terms.specs.declared.spec.Arrow.{Arrow}
use Rattle.type_terms.specs.declared.spec.Kind.TheVariants.{Call}
use Rattle.type_terms.specs.Keys.{Name}
use Rattle.type_terms.specs.Instances.{no_variables}
use Rattle.key_sets.specs.declared.key_set.KeySet.{KeySet}
use Rattle.key_sets.specs.KeySets.{has}
use Rattle.type_terms.specs.declared.term.Key.{Key}
use Rattle.type_terms.specs.Definitions.{given_definitions}
use Rattle.erl_tree.specs.declared.token.Place.{Place}
use Rattle.erl_tree.specs.Lists.{Every, Among}
use Rattle.erl_tree.specs.Functions.{of_function}
use Rattle.erl_runs.specs.Membership.{arrows_of}
use Rattle.name_table.specs.Table.{ids}
use Rattle.cert_checker.specs.declared.refusal.FirstRefusal.{FirstRefusal}
use Rattle.cert_checker.specs.declared.refusal.FirstRefusal.TheVariants.{NoMemory, Failed}
use Rattle.cert_checker.specs.declared.refusal.Shown.TheVariants.{One, Missing}
use Rattle.cert_checker.specs.declared.spec_table.FunctionTypes.{FunctionTypes}
use Rattle.cert_checker.specs.declared.spec_table.FormTypes.TheVariants.{Spec}
use Rattle.cert_checker.specs.declared.expression_type.ExpressionType.{ExpressionType}
use Rattle.cert_checker.specs.declared.expression_type.ExpressionType.TheVariants.{ResultAt}
use Rattle.cert_checker.specs.declared.scope.Scope.{Scope}
use Rattle.cert_checker.specs.Constraints.{IsWithin, AreWithin, Holds, arrow_term}
use Rattle.cert_checker.specs.Failures.{ShowsFailure, Refutes}
use Rattle.cert_checker.specs.FlatTypes.{IsSetOf, AreSetsOf}
use Rattle.cert_checker.specs.SpecTables.{HasTypesOf}
use Rattle.cert_checker.specs.Judging.{Setting, StandsFor, StandForAll, IsCall, MissesParameters, type_of_call, owed_call}
use Rattle.cert_checker.proofs.KeyTerms.{IsOfKeys}
use Rattle.cert_checker.proofs.Calls.{call-within, call-fails, within-same}
use Rattle.cert_checker.proofs.Comparisons.{values-of_keys}
use Rattle.cert_checker.proofs.Arguments.{keys_of, keys-length, stand-length, sets-length}
use Rattle.cert_checker.proofs.Failing.{one-fails}
use Rattle.std.proofs.Math.Path.{transport}
use Rattle.std.proofs.lemmas.Bool.{eq-eqb}
use Rattle.type_terms.proofs.ReadingLaws.{read-And, read-Fun}
use Rattle.cert_checker.specs.declared.expression_type.ExpressionType.TheVariants.{Integers, OneInteger, OneAtom, Parameter}
use Rattle.cert_checker.specs.Failures.{shown_layer}
use Rattle.cert_checker.proofs.KeyTerms.{ints-keys, atom-keys}
use Rattle.erl_runs.specs.Membership.{no_tag}

-- ---- terms of keys

stands-keys : (scope : Scope) (f : ExpressionType) (t : Term) → StandsFor scope f t → IsOfKeys t
stands-keys scope Integers t h = subst IsOfKeys (sym h) (ints-keys None None)
stands-keys scope (OneInteger n) t h = subst IsOfKeys (sym h.0) (ints-keys (Some n) (Some n))
stands-keys scope (OneAtom a) t h = subst IsOfKeys (sym h) (atom-keys a)
stands-keys scope (Parameter at) t h = values-of_keys (has h.0) t h.2
stands-keys scope (ResultAt at) t h = values-of_keys (has h.0.result) t h.2

stand-keys : (scope : Scope) (fs : List ExpressionType) (ts : List Term) → StandForAll scope fs ts → Every IsOfKeys ts
stand-keys scope [] [] h = tt
stand-keys scope (f ∷ fs) (t ∷ ts) h = (stands-keys scope f t h.0, stand-keys scope fs ts h.1)
stand-keys scope [] (t ∷ ts) h = absurd h
stand-keys scope (f ∷ fs) [] h = absurd h

sets-keys : (ss : List KeySet) (ts : List Term) → AreSetsOf ss ts → Every IsOfKeys ts
sets-keys [] [] h = tt
sets-keys (s ∷ ss) (t ∷ ts) h = (values-of_keys (has s) t h.0, sets-keys ss ts h.1)
sets-keys [] (t ∷ ts) h = absurd h
sets-keys (s ∷ ss) [] h = absurd h

-- ---- a call that fails

missing-refutes : (keys : List Key) (types params : List Term) (r R : Term) → length keys ≡ length params → keys_of keys types → (keys_of keys params → ⊥) → Refutes (Missing keys) (And (Fun params r ∷ [])) (Fun types R)
missing-refutes keys types params r R e x out = (
  transport (sym (read-And (shown_layer (Missing keys)) no_tag given_definitions no_variables (Fun params r ∷ [])))
      (transport (sym (read-Fun (shown_layer (Missing keys)) no_tag given_definitions no_variables params r)) (eq-eqb (length keys) (length params) e, out), tt),
  λ h. (transport (read-Fun (shown_layer (Missing keys)) no_tag given_definitions no_variables types R) h).1 x,
)

pub call-shown : (scope : Scope) (s : Setting scope) (place : Place) (types : List Term) (arrow : Arrow) (refusal : FirstRefusal) → length types ≡ length arrow.params → Every IsOfKeys types → Every IsOfKeys arrow.params →
    MissesParameters scope.number place types arrow.params refusal → ShowsFailure (owed_call scope s place types arrow) (scope.number + 1) refusal
call-shown scope s place types arrow NoMemory l tk pk h = tt
call-shown scope s place types arrow (Failed function at kind (One key)) l tk pk h = absurd h
call-shown scope s place types arrow (Failed function at kind (Missing keys)) l tk pk h =
    let left : Term = And (arrow_term arrow ∷ []) in
    let right : Term = Fun types (type_of_call scope s types arrow) in
    let m : length keys ≡ length arrow.params = keys-length keys types h.3 ∙ l in
    subst (λ f. ShowsFailure (owed_call scope s place types arrow) (scope.number + 1) (Failed f at kind (Missing keys))) (sym h.0)
    (subst (λ p. ShowsFailure (owed_call scope s place types arrow) (scope.number + 1) (Failed scope.number p kind (Missing keys))) (sym h.1)
    (subst (λ k. ShowsFailure (owed_call scope s place types arrow) (scope.number + 1) (Failed scope.number place k (Missing keys))) (sym h.2)
    (one-fails scope.number place Call left right (Missing keys) (missing-refutes keys types arrow.params arrow.result (type_of_call scope s types arrow) m h.3 h.4)
    (call-fails keys types arrow.params arrow.result (type_of_call scope s types arrow) tk pk h.3 h.4))))

-- ---- a call that is right

type-found : (scope : Scope) (s : Setting scope) (types : List Term) (arrow : Arrow) → AreWithin types arrow.params → arrow.result ≡ type_of_call scope s types arrow
type-found scope s types arrow w = ap (λ (b : Bool). if b then arrow.result else Any) (sym (s.finds types arrow.params w))

pub call-right : (scope : Scope) (s : Setting scope) (place : Place) (types : List Term) (arrow : Arrow) (at : ℕ) (f : FunctionTypes) → slice_get scope.table.now.types at ≡ Some (Spec f) → HasTypesOf f arrow → AreWithin types arrow.params →
    StandsFor scope (ResultAt at) (type_of_call scope s types arrow) × Every Holds (owed_call scope s place types arrow)
call-right scope s place types arrow at f e h w =
    let q : arrow.result ≡ type_of_call scope s types arrow = type-found scope s types arrow w in
    ((f, e, subst (IsSetOf f.result) q h.result), (call-within types arrow.params arrow.result (type_of_call scope s types arrow) w (subst (IsWithin arrow.result) q (within-same arrow.result)), tt))

-- ---- the function that is called

spec-inj : (f g : FunctionTypes) → Some (Spec f) ≡ Some (Spec g) → f ≡ g
spec-inj f g e = cc

first-inj : (a b : Arrow) → a ∷ [] ≡ b ∷ [] → a ≡ b
first-inj a b e = cc

module _ (scope : Scope) (name : Name) (args : List ExpressionType) (n at : ℕ) (same : n ≡ length args) (found : Among (of_function name n, at) scope.table.now.places) where
  -- the types at the place that was found are those of the function, in each setting
  pub called : (f : FunctionTypes) → slice_get scope.table.now.types at ≡ Some (Spec f) → (s : Setting scope) (ts : List Term) (arrow : Arrow) → StandForAll scope args ts → arrows_of s.specs name (length ts) ≡ arrow ∷ [] → HasTypesOf f arrow × (length arrow.params ≡ length ts)
  called f e s ts arrow w a =
      let k : n ≡ length ts = same ∙ stand-length scope args ts w in
      let r : (arrow : Arrow) × (f : FunctionTypes) × (arrows_of s.specs name n ≡ arrow ∷ []) × (slice_get scope.table.now.types at ≡ Some (Spec f)) × HasTypesOf f arrow × (length arrow.params ≡ n) = s.holds.sound name n at found in
      let p : r.0 ≡ arrow = first-inj r.0 arrow (sym r.2 ∙ (ap (arrows_of s.specs name) k ∙ a)) in
      let q : r.1 ≡ f = spec-inj r.1 f (sym r.3 ∙ e) in
      (subst (λ g. HasTypesOf g arrow) q (subst (HasTypesOf r.1) p r.4), ap (λ (z : Arrow). length z.params) (sym p) ∙ (r.5 ∙ k))

  -- there are types at that place
  pub called-types : IsCall scope name args → (f : FunctionTypes) × (slice_get scope.table.now.types at ≡ Some (Spec f))
  called-types h = let r = h.setting.holds.sound name n at found in (r.1, r.3)

  pub as-many : (f : FunctionTypes) → slice_get scope.table.now.types at ≡ Some (Spec f) → IsCall scope name args → length args ≡ length f.params
  as-many f e h =
      let r : HasTypesOf f h.arrow × (length h.arrow.params ≡ length h.types) = called f e h.setting h.types h.arrow h.stand h.specified in
      stand-length scope args h.types h.stand ∙ (sym r.1 ∙ sym (sets-length f.params h.arrow.params r.0.params))

  pub typed : (place : Place) (f : FunctionTypes) → slice_get scope.table.now.types at ≡ Some (Spec f) → ((ts us : List Term) → StandForAll scope args ts → AreSetsOf f.params us → AreWithin ts us) →
      (s : Setting scope) (ts : List Term) (arrow : Arrow) → StandForAll scope args ts → arrows_of s.specs name (length ts) ≡ arrow ∷ [] → StandsFor scope (ResultAt at) (type_of_call scope s ts arrow) × Every Holds (owed_call scope s place ts arrow)
  typed place f e h s ts arrow w a =
      let r : HasTypesOf f arrow × (length arrow.params ≡ length ts) = called f e s ts arrow w a in
      call-right scope s place ts arrow at f e r.0 (h ts arrow.params w r.0.params)

  pub fails : (place : Place) (f : FunctionTypes) (refusal : FirstRefusal) → slice_get scope.table.now.types at ≡ Some (Spec f) → ((ts us : List Term) → StandForAll scope args ts → AreSetsOf f.params us → MissesParameters scope.number place ts us refusal) →
      (s : Setting scope) (ts : List Term) (arrow : Arrow) → StandForAll scope args ts → arrows_of s.specs name (length ts) ≡ arrow ∷ [] → ShowsFailure (owed_call scope s place ts arrow) (scope.number + 1) refusal
  fails place f refusal e h s ts arrow w a =
      let r : HasTypesOf f arrow × (length arrow.params ≡ length ts) = called f e s ts arrow w a in
      call-shown scope s place ts arrow refusal (sym r.1) (stand-keys scope args ts w) (sets-keys f.params arrow.params r.0.params) (h ts arrow.params w r.0.params)

pub is-called : (scope : Scope) (name : Name) (args : List ExpressionType) (n : ℕ) → n ≡ length args → IsCall scope name args → (Among (of_function name n) (ids scope.table.now.places) → ⊥) → ⊥
is-called scope name args n same h absent = h.setting.holds.complete name n h.arrow (ap (arrows_of h.setting.specs name) (same ∙ stand-length scope args h.types h.stand) ∙ h.specified) absent
