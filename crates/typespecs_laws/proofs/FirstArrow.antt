-- A module without a first fault has no arrow that isn't well signed, where its definitions are contractive: the first would be a fault at its clause.
use Rattle.std.proofs.Common.{◌≡◌, ℕ, zero, suc, ◌<◌, List, [], ◌∷◌, length, get_or, refl, subst, Some, arith}
use Rattle.std.specs.Prelude.{slice_get}
use Rattle.std.proofs.lemmas.Option.{slice_get-get_or, slice_get_within}
use Rattle.type_terms.specs.Definitions.{IsContractive}
use Rattle.type_terms.specs.declared.spec.Arrow.{Arrow}
use Rattle.erl_tree.specs.Lists.{Every}
use Rattle.erl_tree.specs.declared.form.Module.{Module}
use Rattle.typespecs_rules.specs.declared.fault.PlacedFault.{PlacedFault}
use Rattle.typespecs_rules.specs.declared.fault.TypeFault.TheVariants.{NegatedFun}
use Rattle.typespecs_rules.specs.declared.specs.Specs.{Specs}
use Rattle.typespecs_rules.specs.TypeFaults.{HasTerms, IsFirstFault, of_specs, IsWellSignedArrow, arrows_of, spec_clauses, fault_at}
use Rattle.typespecs_lemmas.proofs.EachHasAPlace.{arrow-clauses}
use Rattle.typespecs_lemmas.proofs.FirstFault.{some-inj}

pub one_there : {A : Type 0} (xs : List A) (n : ℕ) → n < length xs → (x : A) × (slice_get xs n ≡ Some x)
one_there [] n l = absurd (grind (arith))
one_there (x ∷ xs) n l = (get_or (x ∷ xs) n x, slice_get-get_or (x ∷ xs) n x l)

-- the first element of which P doesn't hold
abbrev IsFirstWithout : {A : Type 0} → (A → Type 0) → List A → ℕ → A → Type 0
IsFirstWithout {A} P xs n x = (slice_get xs n ≡ Some x) × (P x → ⊥) × ((i : ℕ) (y : A) → i < n → slice_get xs i ≡ Some y → P y)

-- no list has neither P of each element nor a first element without it
none_without : {A : Type 0} (P : A → Type 0) (xs : List A) → (Every P xs → ⊥) → ((n : ℕ) (x : A) → IsFirstWithout P xs n x → ⊥) → ⊥
none_without P [] every first = every tt
none_without {A} P (x ∷ xs) every first = first zero x (refl, λ p. none_without P xs (λ q. every (p, q)) (λ n y is. first (suc n) y (is.0, is.1, before p n is.2)), λ i y l. absurd (omega arith))
  where
    before : P x → (n : ℕ) → ((i : ℕ) (y : A) → i < n → slice_get xs i ≡ Some y → P y) → (i : ℕ) (y : A) → i < suc n → slice_get (x ∷ xs) i ≡ Some y → P y
    before p n more zero y l e = subst P (some-inj x y e) p
    before p n more (suc i) y l e = more i y (omega arith) e

module _ (m : Module) (s : Specs) (none : (f : PlacedFault) → IsFirstFault m f → ⊥) (has : HasTerms m s) (contractive : IsContractive s.defs) where
  no_first_arrow : (n : ℕ) (a : Arrow) → IsFirstWithout (IsWellSignedArrow s.defs) (arrows_of s) n a → ⊥
  no_first_arrow n a is =
      let clause = one_there (spec_clauses m) n (subst (λ k. n < k) (arrow-clauses m s has.terms) (slice_get_within (arrows_of s) n a is.0)) in
      none (fault_at NegatedFun clause.0.place)
      (of_specs s has contractive (record { number = n; clause = clause.0; arrow = a; written = clause.1; meant = is.0; fault = refl; not_signed = is.1; first = is.2 }))

  pub not_without_signs : (Every (IsWellSignedArrow s.defs) (arrows_of s) → ⊥) → ⊥
  not_without_signs not_all = none_without (IsWellSignedArrow s.defs) (arrows_of s) not_all no_first_arrow
