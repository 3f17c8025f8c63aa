-- A definition that reaches itself is a declared one, and its name has a place.
use Rattle.std.proofs.Common.{◌≡◌, ◌⊎◌, ℕ, ◌+◌, ◌-◌, ◌<◌, ◌≤◌, List, length, refl, sym, subst, Some, inl, inr, arith}
use Rattle.std.specs.Prelude.{slice_get}
use Rattle.std.proofs.lemmas.Bool.{cases_lt}
use Rattle.std.proofs.lemmas.Option.{slice_get_within}
use Rattle.type_terms.specs.Definitions.{Reaches, directly, by_way_of}
use Rattle.type_terms.specs.Refusals.{IsRefusedAs}
use Rattle.type_terms.specs.declared.term.Def.{Def}
use Rattle.type_terms.specs.declared.defs.DefFault.TheVariants as D
use Rattle.erl_tree.specs.declared.token.Place.{Place}
use Rattle.erl_tree.specs.declared.form.Module.{Module}
use Rattle.typespecs_rules.specs.declared.fault.TypeFault.TheVariants.{NotContractive}
use Rattle.typespecs_rules.specs.declared.specs.Specs.{Specs}
use Rattle.typespecs_rules.specs.SpecTerms.{module_specs}
use Rattle.typespecs_rules.specs.TypeFaults.{IsFirstFault, of_definitions, name_places, fault_at}
use Rattle.typespecs_lemmas.proofs.EachHasAPlace.{definition-places}
use Rattle.typespecs_lemmas.proofs.GivenReach.{given-reach-nothing}
use Rattle.typespecs.specs.TextFaults.{HasNoTextFault}
use Rattle.typespecs.proofs.Arrows.{slice_there}

reaches-within : (defs : List Def) (n m : ℕ) → Reaches defs n m → n < length defs
reaches-within defs n m (directly k j def arguments at bare) = slice_get_within defs n def at
reaches-within defs n m (by_way_of k between j first second) = reaches-within defs n between first

module _ (m : Module) (s : Specs) (no_fault : HasNoTextFault m) (are : module_specs m ≡ Some s) (n : ℕ) (refused : IsRefusedAs s.defs (D.NotContractive n)) where
  reaches : Reaches s.defs n n
  reaches = refused.1

  pub at-least-two : 2 ≤ n
  at-least-two = choose (cases_lt n 2)
    where
      choose : (n < 2) ⊎ (2 ≤ n) → 2 ≤ n
      choose (inl small) = absurd (given-reach-nothing m s are n small reaches)
      choose (inr large) = large

  behind-two : 2 + (n - 2) ≡ n
  behind-two = let two = at-least-two in omega arith

  pub place-there : (p : Place) × (slice_get (name_places m) (n - 2) ≡ Some p)
  place-there =
      slice_there (name_places m) (n - 2) (let two = at-least-two in let within = reaches-within s.defs n n reaches in let places = definition-places m s are in omega arith)

  pub reaches-itself : (p : Place) → slice_get (name_places m) (n - 2) ≡ Some p → IsFirstFault m (fault_at NotContractive p)
  reaches-itself p at =
      of_definitions s (record { no_fault = no_fault; terms = are })
      (record { index = n - 2; place = p; named = at; fault = refl; reaches = subst (λ k. Reaches s.defs k k) (sym behind-two) reaches; first = λ k lt r. refused.2 k (subst (λ j. k < j) behind-two lt) r })
