-- The modules of the texts are readable.
use Rattle.std.proofs.Common.{◌≡◌, ◌∙◌, ap, sym, subst, ℕ, zero, suc, [], inl, inr}
use Rattle.std.specs.Prelude.{Some, slice_get}
use Rattle.std.specs.Option.{unwrap_or}
use Rattle.type_terms.specs.Paths.{IsPath, edge, onward}
use Rattle.type_terms.proofs.Contained.{contains-none}
use Rattle.type_terms.proofs.SmallCases.{ints-well-signed}
use Rattle.type_terms.proofs.GivenDefinitions.{given}
use Rattle.erl_tree.specs.declared.token.Node.{Node}
use Rattle.erl_tree.specs.declared.type_expr.TypeKind.{TypeKind}
use Rattle.erl_tree.specs.declared.expr.ExprKind.{ExprKind}
use Rattle.erl_tree.specs.declared.form.SpecClauseKind.{SpecClauseKind}
use Rattle.erl_tree.specs.Lists.{Among}
use Rattle.erl_scope_rules.specs.ScopeFaults.{HasRightNames}
use Rattle.erl_scope_rules.proofs.OccurrenceLaws.{variables_equations, part_equations}
use Rattle.erl_scope_rules.proofs.FaultLaws.{pattern_fault_equations, fault_equations}
use Rattle.typespecs_rules.specs.Bounds.{IsCyclic}
use Rattle.typespecs_rules.specs.Declarations.{nothing_declared}
use Rattle.typespecs_rules.specs.RegularUse.{Declaration, given_declaration, all_types, by_number, IsNotRegular}
use Rattle.typespecs_rules.specs.SpecTerms.{module_specs}
use Rattle.typespecs_rules.specs.declared.fault.PlacedFault.{PlacedFault}
use Rattle.typespecs_rules.specs.TypeFaults.{listed_faults, IsTextFault, at_one_place, bound_leads_back, not_regular, HasSpecs}
use Rattle.typespecs_rules.proofs.TypeRuleLaws.{type_term_equations, inside_equations}
use Rattle.text_reader_rules.specs.Readable.{IsReadable}
use Rattle.examples_texts.specs.SmallTexts.{module_with, module_that_keeps, module_that_breaks, its_specs}

-- ---- modules without types, records and bounds

nothing-inside : (n : ℕ) (d : Declaration) (t : Node TypeKind) → slice_get (by_number nothing_declared) n ≡ Some d → Among t (all_types d) → ⊥
nothing-inside zero d t e a = subst (λ x. Among t (all_types x)) (sym (ap (λ o. unwrap_or o given_declaration) e)) a
nothing-inside (suc zero) d t e a = subst (λ x. Among t (all_types x)) (sym (ap (λ o. unwrap_or o given_declaration) e)) a
nothing-inside (suc (suc n)) d t e a = absurd (cc)

-- where nothing is declared, no type leads back to itself
all-regular : (t : Node TypeKind) → IsNotRegular nothing_declared t → ⊥
all-regular t r = nothing-inside r.number r.declaration t r.numbered r.inside

-- where nothing is bounded, no bound leads back to itself
no-cycle : IsCyclic [] → ⊥
no-cycle (i, p) = no-path i i p
  where
    no-path : (n m : ℕ) → IsPath [] n m → ⊥
    no-path _ _ (edge n m c) = contains-none m c
    no-path _ _ (onward n k m p' c) = contains-none m c

-- ---- types and specs, whatever the body is

module _ (e : ExprKind) where
  listed : listed_faults (module_with e) ≡ []
  listed = simp (inside_equations)

  no-fault : (f : PlacedFault) → IsTextFault (module_with e) f → ⊥
  no-fault f (at_one_place _ a) = subst (λ fs. Among f fs) listed a
  no-fault _ (bound_leads_back c (inl q) k) = no-cycle (subst (λ (x : Node SpecClauseKind). IsCyclic x.kind.bounds) q k)
  no-fault _ (bound_leads_back c (inr q) k) = q
  no-fault _ (not_regular t r) = all-regular t r

  terms : module_specs (module_with e) ≡ Some its_specs
  terms = simp (type_term_equations, inside_equations)

  has-specs : HasSpecs (module_with e) its_specs
  has-specs = record {
    terms = record { no_fault = no-fault; terms = terms };
    contractive = given.contractive;
    well_signed = (((ints-well-signed _ _ _, tt), ints-well-signed _ _ _), tt);
  }

-- ---- names

keeps-names : HasRightNames module_that_keeps
keeps-names = simp (part_equations, variables_equations, fault_equations, pattern_fault_equations)

breaks-names : HasRightNames module_that_breaks
breaks-names = simp (part_equations, variables_equations, fault_equations, pattern_fault_equations)

-- ---- modules

pub keeps-readable : IsReadable module_that_keeps
keeps-readable = record { right_names = keeps-names; specs = its_specs; has_specs = has-specs _ }

pub breaks-readable : IsReadable module_that_breaks
breaks-readable = record { right_names = breaks-names; specs = its_specs; has_specs = has-specs _ }

-- a module of these has no other specs
pub its-functions : (e : ExprKind) (r : IsReadable (module_with e)) → its_specs ≡ r.specs
its-functions e r = some-same _ _ (sym (terms e) ∙ r.has_specs.terms.terms)
  where
    some-same : {A : Type 0} (a b : A) → Some a ≡ Some b → a ≡ b
    some-same a b q = cc
