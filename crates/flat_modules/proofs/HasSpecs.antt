-- Which types, records and specs a flat module has.
use Rattle.std.proofs.Common.{◌≡◌, ap, sym, subst, ◌∙◌, ℕ, zero, suc, List, [], ◌∷◌, ◌++◌, inl, inr}
use Rattle.std.specs.Prelude.{Some, slice_get}
use Rattle.std.specs.Option.{unwrap_or}
use Rattle.type_terms.specs.Paths.{IsPath, edge, onward}
use Rattle.type_terms.proofs.Contained.{contains-none}
use Rattle.type_terms.proofs.GivenDefinitions.{given}
use Rattle.type_terms.specs.Definitions.{given_definitions}
use Rattle.erl_tree.specs.Lists.{Every, Among}
use Rattle.erl_tree.specs.declared.token.Place.{Place}
use Rattle.erl_tree.specs.declared.token.Node.{Node}
use Rattle.erl_tree.specs.declared.type_expr.TypeKind.{TypeKind}
use Rattle.erl_tree.specs.declared.form.SpecKind.{SpecKind}
use Rattle.erl_tree.specs.declared.form.SpecClauseKind.{SpecClauseKind}
use Rattle.erl_tree.specs.declared.form.TreeForm.{TreeForm}
use Rattle.erl_tree.specs.declared.form.TreeForm.TheVariants as F
use Rattle.erl_tree.specs.declared.form.Module.{Module}
use Rattle.erl_runs.specs.Specs.{specs_in}
use Rattle.typespecs_rules.specs.TypeParts.{from_each}
use Rattle.typespecs_rules.specs.Declarations.{nothing_declared}
use Rattle.typespecs_rules.specs.Bounds.{IsCyclic}
use Rattle.typespecs_rules.specs.SpecTerms.{module_specs}
use Rattle.typespecs_rules.specs.declared.fault.PlacedFault.{PlacedFault}
use Rattle.typespecs_rules.specs.RegularUse.{Declaration, given_declaration, all_types, by_number, IsNotRegular}
use Rattle.typespecs_rules.specs.TypeFaults.{listed_faults, IsTextFault, at_one_place, bound_leads_back, not_regular, IsWellSignedArrow, arrows_of, HasSpecs}
use Rattle.flat_modules.specs.FlatSpecs.{read_specs, specs_of, module_specs_of}
use Rattle.flat_modules.specs.FlatModules.{IsFlatModule}
use Rattle.flat_modules.specs.Grammar.{IsForm, is_spec_layer, is_spec_clause_layer, IsWellFormed}
use Rattle.flat_modules.proofs.FlatVariables.{some-is}
use Rattle.flat_modules.proofs.FlatLaws.{flat-formed}
use Rattle.flat_modules.proofs.RightFlatNames.{forms-formed}
use Rattle.flat_modules.proofs.WholeSpecs.{nothing-declared, whole-specs}

-- ---- no bound and no declared type leads back

nothing-inside : (n : ℕ) (d : Declaration) (t : Node TypeKind) → slice_get (by_number nothing_declared) n ≡ Some d → Among t (all_types d) → ⊥
nothing-inside zero d t e a = subst (λ x. Among t (all_types x)) (sym (ap (λ o. unwrap_or o given_declaration) e)) a
nothing-inside (suc zero) d t e a = subst (λ x. Among t (all_types x)) (sym (ap (λ o. unwrap_or o given_declaration) e)) a
nothing-inside (suc (suc n)) d t e a = absurd (cc)

all-regular : (t : Node TypeKind) → IsNotRegular nothing_declared t → ⊥
all-regular t r = nothing-inside r.number r.declaration t r.numbered r.inside

no-cycle : IsCyclic [] → ⊥
no-cycle (i, p) = no-path i i p
  where
    no-path : (n m : ℕ) → IsPath [] n m → ⊥
    no-path _ _ (edge n m c) = contains-none m c
    no-path _ _ (onward n k m p' c) = contains-none m c

abbrev HasNoBounds : Node SpecClauseKind → Type 0
HasNoBounds c = c.kind.bounds ≡ []

clause-bounds : (c : Node SpecClauseKind) (ms : List Place) → is_spec_clause_layer c.kind c.place ms → HasNoBounds c
clause-bounds c (o ∷ ms) w = w.5
clause-bounds c [] w = absurd w

clauses-bounds : (cs : List (Node SpecClauseKind)) (p : Place) (ms : List Place) → is_spec_layer cs p ms → (c : Node SpecClauseKind) → Among c cs → HasNoBounds c
clauses-bounds (x ∷ []) p (h ∷ s ∷ n ∷ d ∷ []) w c (inl e) = subst HasNoBounds (sym e) (clause-bounds x x.marks w.1)
clauses-bounds (x ∷ []) p (h ∷ s ∷ n ∷ d ∷ []) w c (inr a) = absurd a
clauses-bounds _ p _ w c a = absurd w

split-among : {A : Type 0} (P : A → Type 0) (xs ys : List A) → ((x : A) → Among x xs → P x) → ((x : A) → Among x ys → P x) → (x : A) → Among x (xs ++ ys) → P x
split-among P [] ys h k x a = k x a
split-among P (z ∷ xs) ys h k x (inl e) = h x (inl e)
split-among P (z ∷ xs) ys h k x (inr a) = split-among P xs ys (λ y b. h y (inr b)) k x a

no-bounds : (forms : List TreeForm) → Every IsForm forms → (c : Node SpecClauseKind) → Among c (from_each (λ (s : Node SpecKind). s.kind.clauses) (specs_in forms)) → HasNoBounds c
no-bounds [] w c a = absurd a
no-bounds (F.Function f ∷ forms) w c a = no-bounds forms w.1 c a
no-bounds (F.Spec s ∷ forms) w c a = split-among HasNoBounds s.kind.clauses (from_each (λ (s : Node SpecKind). s.kind.clauses) (specs_in forms)) (clauses-bounds s.kind.clauses s.place s.marks w.0) (no-bounds forms w.1) c a
no-bounds (_ ∷ forms) w c a = absurd w.0

module _ (m : Module) (w : IsWellFormed m) where
  no-fault : listed_faults m ≡ [] → (f : PlacedFault) → IsTextFault m f → ⊥
  no-fault listed f (at_one_place _ a) = subst (λ fs. Among f fs) listed a
  no-fault listed _ (bound_leads_back c a k) = no-cycle (subst IsCyclic (no-bounds m.forms (forms-formed m w) c a) k)
  no-fault listed _ (not_regular t r) = all-regular t (subst (λ d. IsNotRegular d t) (nothing-declared m w) r)

  -- a flat module has these specs where nothing else is wrong with single places and with signs
  pub has-specs : listed_faults m ≡ [] → read_specs m ≡ Some (specs_of m) → Every (IsWellSignedArrow given_definitions) (arrows_of (module_specs_of m)) → HasSpecs m (module_specs_of m)
  has-specs listed read signed = record {
    terms = record { no_fault = no-fault listed; terms = whole-specs m w read };
    contractive = given.contractive;
    well_signed = signed;
  }

-- ---- flat modules

pub flat-whole : (m : Module) → IsFlatModule m → module_specs m ≡ Some (module_specs_of m)
flat-whole m flat = whole-specs m (flat-formed m flat) flat.flat_specs.specs_read

pub flat-readable : (m : Module) (flat : IsFlatModule m) → flat.readable.specs ≡ module_specs_of m
flat-readable m flat = some-is _ _ (sym flat.readable.has_specs.terms.terms ∙ flat-whole m flat)
