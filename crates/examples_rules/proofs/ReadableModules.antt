-- Which modules are readable.
use Rattle.std.proofs.Common.{◌≡◌, refl, sym, subst, ◌∙◌, [], ◌∷◌, inl, inr}
use Rattle.std.specs.Prelude.{Some}
use Rattle.type_terms.proofs.SmallCases.{ints-well-signed}
use Rattle.type_terms.proofs.GivenDefinitions.{given}
use Rattle.erl_tree.specs.declared.token.Node.{Node}
use Rattle.erl_tree.specs.declared.form.SpecClauseKind.{SpecClauseKind}
use Rattle.erl_tree.specs.Lists.{Among}
use Rattle.erl_tree.specs.SmallText.{small_module}
use Rattle.erl_scope_rules.specs.ScopeFaults.{faults_of, HasRightNames}
use Rattle.erl_scope_rules.specs.declared.fault.NameFault.TheVariants.{NoSpec}
use Rattle.erl_scope_rules.proofs.OccurrenceLaws.{part_equations}
use Rattle.erl_scope_rules.proofs.FaultLaws.{fault_equations}
use Rattle.typespecs_rules.specs.Bounds.{IsCyclic}
use Rattle.typespecs_rules.specs.SpecTerms.{module_specs}
use Rattle.typespecs_rules.specs.declared.fault.PlacedFault.{PlacedFault}
use Rattle.typespecs_rules.specs.declared.fault.TypeFault.TheVariants.{NoSuchType}
use Rattle.typespecs_rules.specs.TypeFaults.{listed_faults, IsTextFault, at_one_place, bound_leads_back, not_regular, HasSpecs}
use Rattle.typespecs_rules.specs.SmallModules.{in_line, fault}
use Rattle.typespecs_rules.proofs.TypeRuleLaws.{type_term_equations, inside_equations}
use Rattle.text_reader_rules.specs.Readable.{IsReadable}
use Rattle.flat_modules.proofs.SmallExamples.{no-functions}
use Rattle.examples_rules.specs.SmallFunctions.{with_its_spec, its_specs, without_a_spec, no_specs, of_an_unknown_type}
use Rattle.examples_rules.proofs.FirstFaults.{all-regular, no-cycle}

-- ---- modules that are readable

pub without-functions : IsReadable small_module
without-functions = no-functions.readable

pub with-names : HasRightNames with_its_spec
with-names = simp (part_equations, fault_equations)

with-listed : listed_faults with_its_spec ≡ []
with-listed = simp (inside_equations)

with-no-fault : (f : PlacedFault) → IsTextFault with_its_spec f → ⊥
with-no-fault f (at_one_place _ a) = subst (λ fs. Among f fs) with-listed a
with-no-fault _ (bound_leads_back c (inl e) k) = no-cycle (subst (λ (x : Node SpecClauseKind). IsCyclic x.kind.bounds) e k)
with-no-fault _ (bound_leads_back c (inr e) k) = e
with-no-fault _ (not_regular t r) = all-regular t r

with-terms : module_specs with_its_spec ≡ Some its_specs
with-terms = simp (type_term_equations, inside_equations)

pub with-specs : HasSpecs with_its_spec its_specs
with-specs = record {
  terms = record { no_fault = with-no-fault; terms = with-terms };
  contractive = given.contractive;
  well_signed = ((tt, ints-well-signed _ _ _), tt);
}

pub with-readable : IsReadable with_its_spec
with-readable = record { right_names = with-names; specs = its_specs; has_specs = with-specs }

-- ---- modules that are not readable

pub unknown-names : HasRightNames of_an_unknown_type
unknown-names = simp (part_equations, fault_equations)

unknown-listed : listed_faults of_an_unknown_type ≡ fault NoSuchType 2 14 ∷ []
unknown-listed = simp (inside_equations)

pub unknown-not-readable : IsReadable of_an_unknown_type → ⊥
unknown-not-readable h = h.has_specs.terms.no_fault (fault NoSuchType 2 14) (at_one_place (fault NoSuchType 2 14) (subst (λ fs. Among (fault NoSuchType 2 14) fs) (sym unknown-listed) (inl refl)))

alone-no-fault : (f : PlacedFault) → IsTextFault without_a_spec f → ⊥
alone-no-fault f (at_one_place _ a) = a
alone-no-fault _ (bound_leads_back c a k) = a
alone-no-fault _ (not_regular t r) = all-regular t r

pub alone-specs : HasSpecs without_a_spec no_specs
alone-specs = record {
  terms = record { no_fault = alone-no-fault; terms = refl };
  contractive = given.contractive;
  well_signed = tt;
}

alone-faults : faults_of without_a_spec ≡ record { place = in_line 2 1; fault = NoSpec } ∷ []
alone-faults = simp (part_equations, fault_equations)

pub alone-not-readable : IsReadable without_a_spec → ⊥
alone-not-readable h = absurd (subst (λ fs. Among (record { place = in_line 2 1; fault = NoSpec }) fs) (sym alone-faults ∙ h.right_names) (inl refl))
