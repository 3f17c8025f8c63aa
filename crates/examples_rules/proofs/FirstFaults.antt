-- Which modules have specs, and which fault of a module is the first.
use Rattle.std.proofs.Common.{◌≡◌, refl, ap, sym, subst, ℕ, zero, suc, [], ◌∷◌, inl, inr, arith}
use Rattle.std.specs.Prelude.{Some, false, slice_get}
use Rattle.std.specs.Option.{unwrap_or}
use Rattle.type_terms.specs.Paths.{IsPath, edge, onward}
use Rattle.type_terms.proofs.Contained.{contains-none}
use Rattle.erl_tree.specs.declared.token.Node.{Node}
use Rattle.erl_tree.specs.declared.type_expr.TypeKind.{TypeKind}
use Rattle.erl_tree.specs.declared.form.SpecClauseKind.{SpecClauseKind}
use Rattle.erl_tree.specs.Lists.{Among}
use Rattle.typespecs_rules.specs.Declarations.{nothing_declared}
use Rattle.typespecs_rules.specs.Bounds.{IsCyclic}
use Rattle.typespecs_rules.specs.RegularUse.{Declaration, given_declaration, all_types, by_number, IsNotRegular}
use Rattle.typespecs_rules.specs.declared.specs.Specs.{Specs}
use Rattle.typespecs_rules.specs.declared.fault.PlacedFault.{PlacedFault}
use Rattle.typespecs_rules.specs.declared.fault.TypeFault.TheVariants.{NoSuchType, NotContractive, NegatedFun, ArityDiffers}
use Rattle.typespecs_rules.specs.TypeFaults.{listed_faults, is_earlier, IsTextFault, at_one_place, bound_leads_back, not_regular, IsFirstFault, of_the_text, HasSpecs}
use Rattle.typespecs_rules.specs.SmallModules.{fault, unknown_type, negated_variable, own_alternative, bounded_once, once_specs}
use Rattle.typespecs_rules.proofs.TypeRuleLaws.{inside_equations}
use Rattle.typespecs_rules.proofs.ModuleExamples.{faults_of_declarations-unknown_type, faults_of_terms-negated_variable, faults_of_terms-own_alternative, right_modules-bounded_once}
use Rattle.typespecs_lemmas.proofs.FirstFault.{one-first, no-first}
use Rattle.examples_rules.specs.SmallFaults.{two_faults}

-- ---- modules without types, records and bounds

nothing-inside : (n : ℕ) (d : Declaration) (t : Node TypeKind) → slice_get (by_number nothing_declared) n ≡ Some d → Among t (all_types d) → ⊥
nothing-inside zero d t e a = subst (λ x. Among t (all_types x)) (sym (ap (λ o. unwrap_or o given_declaration) e)) a
nothing-inside (suc zero) d t e a = subst (λ x. Among t (all_types x)) (sym (ap (λ o. unwrap_or o given_declaration) e)) a
nothing-inside (suc (suc n)) d t e a = absurd (cc)

-- where nothing is declared, no type leads back to itself
pub all-regular : (t : Node TypeKind) → IsNotRegular nothing_declared t → ⊥
all-regular t r = nothing-inside r.number r.declaration t r.numbered r.inside

-- where nothing is bounded, no bound leads back to itself
pub no-cycle : IsCyclic [] → ⊥
no-cycle (i, p) = no-path i i p
  where
    no-path : (n m : ℕ) → IsPath [] n m → ⊥
    no-path _ _ (edge n m c) = contains-none m c
    no-path _ _ (onward n k m p' c) = contains-none m c

-- ---- modules without specs

pub unknown : (s : Specs) → HasSpecs unknown_type s → ⊥
unknown s h = h.terms.no_fault (fault NoSuchType 2 14) (at_one_place (fault NoSuchType 2 14) (subst (λ fs. Among (fault NoSuchType 2 14) fs) (sym faults_of_declarations-unknown_type) (inl refl)))

pub negated : (s : Specs) → HasSpecs negated_variable s → ⊥
negated s h = no-first negated_variable s (fault NegatedFun 2 8) h faults_of_terms-negated_variable

pub alternative : (s : Specs) → HasSpecs own_alternative s → ⊥
alternative s h = no-first own_alternative s (fault NotContractive 2 7) h faults_of_terms-own_alternative

-- ---- the first of two faults

pub two-listed : listed_faults two_faults ≡ fault ArityDiffers 2 22 ∷ fault NoSuchType 2 9 ∷ []
two-listed = simp (inside_equations)

none-before : (g : PlacedFault) → Among g (fault ArityDiffers 2 22 ∷ fault NoSuchType 2 9 ∷ []) → is_earlier g (fault NoSuchType 2 9) ≡ false
none-before g (inl e) = subst (λ x. is_earlier x (fault NoSuchType 2 9) ≡ false) (sym e) refl
none-before g (inr (inl e)) = subst (λ x. is_earlier x (fault NoSuchType 2 9) ≡ false) (sym e) refl
none-before g (inr (inr e)) = absurd e

none-earlier : (g : PlacedFault) → IsTextFault two_faults g → is_earlier g (fault NoSuchType 2 9) ≡ false
none-earlier g (at_one_place _ a) = none-before g (subst (λ fs. Among g fs) two-listed a)
none-earlier _ (bound_leads_back c (inl e) k) = absurd (no-cycle (subst (λ (x : Node SpecClauseKind). IsCyclic x.kind.bounds) e k))
none-earlier _ (bound_leads_back c (inr (inl e)) k) = absurd (no-cycle (subst (λ (x : Node SpecClauseKind). IsCyclic x.kind.bounds) e k))
none-earlier _ (bound_leads_back c (inr (inr e)) k) = absurd e
none-earlier _ (not_regular t r) = absurd (all-regular t r)

pub earlier : IsFirstFault two_faults (fault NoSuchType 2 9)
earlier = of_the_text (at_one_place (fault NoSuchType 2 9) (subst (λ fs. Among (fault NoSuchType 2 9) fs) (sym two-listed) (inr (inl refl)))) none-earlier

-- no fault in another column is the first
elsewhere : (f : PlacedFault) → (f.place.column ≡ 9 → ⊥) → IsFirstFault two_faults f → ⊥
elsewhere f apart h = apart (ap (λ (x : PlacedFault). x.place.column) (one-first two_faults f (fault NoSuchType 2 9) h earlier))

pub later : IsFirstFault two_faults (fault ArityDiffers 2 22) → ⊥
later = elsewhere (fault ArityDiffers 2 22) (λ e. omega arith)

pub no-fault-of-it : IsFirstFault two_faults (fault NoSuchType 2 8) → ⊥
no-fault-of-it = elsewhere (fault NoSuchType 2 8) (λ e. omega arith)

-- ---- a right module

pub none-first : (f : PlacedFault) → IsFirstFault bounded_once f → ⊥
none-first f h = no-first bounded_once once_specs f right_modules-bounded_once h
