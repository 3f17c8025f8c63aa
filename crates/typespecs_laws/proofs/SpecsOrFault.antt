-- No module has neither specs nor a first fault.
use Rattle.std.proofs.Common.{◌≡◌, refl}
use Rattle.std.specs.Prelude.{Option, Some, None, true, is_some}
use Rattle.erl_tree.specs.declared.form.Module.{Module}
use Rattle.typespecs_rules.specs.declared.fault.PlacedFault.{PlacedFault}
use Rattle.typespecs_rules.specs.declared.specs.Specs.{Specs}
use Rattle.typespecs_rules.specs.SpecTerms.{module_specs}
use Rattle.typespecs_rules.specs.TypeFaults.{HasTerms, HasSpecs, IsTextFault, IsFirstFault}
use Rattle.typespecs_lemmas.proofs.ModuleTerms.{specs-there}
use Rattle.typespecs_laws.proofs.EarliestFault.{no_text_fault}
use Rattle.typespecs_laws.proofs.LeastDefinition.{none_reaches_itself}
use Rattle.typespecs_laws.proofs.FirstArrow.{not_without_signs}

what_is_there : {A : Type 0} (o : Option A) → is_some o ≡ true → (a : A) × (o ≡ Some a)
what_is_there None e = absurd (cc)
what_is_there (Some a) e = (a, refl)

pub specs_or_fault : (m : Module) → ((s : Specs) → HasSpecs m s → ⊥) → ((f : PlacedFault) → IsFirstFault m f → ⊥) → ⊥
specs_or_fault m no_specs no_fault = by (what_is_there (module_specs m) (specs-there m text))
  where
    text : (f : PlacedFault) → IsTextFault m f → ⊥
    text = no_text_fault m no_fault

    by : (s : Specs) × (module_specs m ≡ Some s) → ⊥
    by (s, e) =
        let has : HasTerms m s = record { no_fault = text; terms = e } in
        let contractive = none_reaches_itself m s no_fault has in
        not_without_signs m s no_fault has contractive (λ signed. no_specs s (record { terms = has; contractive = contractive; well_signed = signed }))
