-- A module without a first fault has contractive definitions, where it has terms: the least that reached itself would be a fault at its name.
use Rattle.std.proofs.Common.{◌≡◌, ⊎_elim, ℕ, ◌+◌, ◌-◌, ◌<◌, ◌≤◌, List, length, refl, sym, subst, arith}
use Rattle.std.proofs.lemmas.Bool.{cases_lt}
use Rattle.std.proofs.lemmas.Option.{slice_get_within}
use Rattle.type_terms.specs.Definitions.{IsContractive, Reaches, directly, by_way_of}
use Rattle.type_terms.specs.declared.term.Def.{Def}
use Rattle.erl_tree.specs.declared.form.Module.{Module}
use Rattle.typespecs_rules.specs.declared.fault.PlacedFault.{PlacedFault}
use Rattle.typespecs_rules.specs.declared.fault.TypeFault.TheVariants.{NotContractive}
use Rattle.typespecs_rules.specs.declared.specs.Specs.{Specs}
use Rattle.typespecs_rules.specs.TypeFaults.{HasTerms, IsFirstFault, of_definitions, name_places, fault_at}
use Rattle.typespecs_lemmas.proofs.EachHasAPlace.{definition-places}
use Rattle.typespecs_lemmas.proofs.GivenReach.{given-reach-nothing}
use Rattle.typespecs_laws.proofs.EarliestFault.{each_number}
use Rattle.typespecs_laws.proofs.FirstArrow.{one_there}

reaches_within : (defs : List Def) (n k : ℕ) → Reaches defs n k → n < length defs
reaches_within defs n k (directly _ _ def arguments at bare) = slice_get_within defs n def at
reaches_within defs n k (by_way_of _ between _ first second) = reaches_within defs n between first

module _ (m : Module) (s : Specs) (none : (f : PlacedFault) → IsFirstFault m f → ⊥) (has : HasTerms m s) where
  declared_one : (n : ℕ) → ((k : ℕ) → k < n → Reaches s.defs k k → ⊥) → Reaches s.defs n n → 2 ≤ n → ⊥
  declared_one n first reaches two =
      let behind : 2 + (n - 2) ≡ n = omega arith in
      let within : n < length s.defs = reaches_within s.defs n n reaches in
      let places : length s.defs ≡ 2 + length (name_places m) = definition-places m s has.terms in
      let named = one_there (name_places m) (n - 2) (omega arith) in
      none (fault_at NotContractive named.0) (of_definitions s has
      (record { index = n - 2; place = named.0; named = named.1; fault = refl; reaches = subst (λ k. Reaches s.defs k k) (sym behind) reaches; first = λ k lower. first k (subst (λ j. k < j) behind lower) }))

  pub none_reaches_itself : IsContractive s.defs
  none_reaches_itself = each_number (λ n. Reaches s.defs n n → ⊥) step
    where
      step : (n : ℕ) → ((k : ℕ) → k < n → Reaches s.defs k k → ⊥) → Reaches s.defs n n → ⊥
      step n first reaches = ⊎_elim (λ (given : n < 2). given-reach-nothing m s has.terms n given reaches) (declared_one n first reaches) (cases_lt n 2)
