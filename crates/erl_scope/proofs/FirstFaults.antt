-- The first fault of a module, by what became of its variables and by the first fault of its other names.
use Rattle.std.proofs.Common.{◌≡◌, ◌∙◌, refl, sym, ap, subst, ℕ, List, [], ◌∷◌, ◌++◌, drop, Option, Some, None}
use Rattle.std.specs.Prelude.{IfSome}
use Rattle.std.proofs.lemmas.List.{append-nil}
use Rattle.erl_tree.specs.declared.form.Module.{Module}
use Rattle.erl_scope_rules.specs.declared.fault.PlacedFault.{PlacedFault}
use Rattle.erl_scope_rules.specs.declared.resolved.Resolved.{Resolved}
use Rattle.erl_scope_rules.specs.Occurrences.{Occurrence, occurrences_of}
use Rattle.erl_scope_rules.specs.Bindings.{innermost}
use Rattle.erl_scope_rules.specs.Resolution.{all_resolved_in, resolved_of}
use Rattle.erl_scope_rules.specs.ScopeFaults.{at, role_fault, stands_among, faults_of_each, faults_of_optional, occurrence_faults, forms_faults, faults_of, HasRightNames, IsFirstFault}
use Rattle.erl_scope_rules.specs.Earliest.{earliest}
use Rattle.erl_scope_rules.proofs.EarliestLaws.{earliest-append, earliest-stands, earliest-first, earliest-none}
use Rattle.erl_scope.specs.declared.fault.ScopeFault.{ScopeFault}
use Rattle.erl_scope.specs.FaultPlaces.{placed_fault}
use Rattle.erl_scope.specs.Outcomes.{listed, faults_of_outcomes}
use Rattle.erl_scope.proofs.FirstOfTwo.{earliest-listed}

-- what became of occurrences has their faults
faults_of_outcomes-all_resolved_in : (os : List Occurrence) → faults_of_outcomes (all_resolved_in [] [] os) ≡ faults_of_each occurrence_faults os
faults_of_outcomes-all_resolved_in [] = refl
faults_of_outcomes-all_resolved_in (o ∷ os) =
    λ i. faults_of_optional (λ fault. at fault o.mark.place) (role_fault o.mark.role (innermost o.mark.name (append-nil o.sees i)) (stands_among o.mark.name (append-nil o.ended i))) ++ faults_of_outcomes-all_resolved_in os i

-- ---- the variables in turn

-- the first fault so far and those of the variables from here on give the first fault of all
abbrev pub IsFirstBefore : List Resolved → ℕ → Option PlacedFault → Type 0
IsFirstBefore found i first = earliest first (faults_of_outcomes (drop i found)) ≡ earliest None (faults_of_outcomes found)

-- ---- the module

pub in_two_steps : (m : Module) (found : List Resolved) (of_variables of_names first : Option PlacedFault)
    → found ≡ resolved_of m
    → of_variables ≡ earliest None (faults_of_outcomes found)
    → of_names ≡ earliest None (forms_faults m [] m.forms)
    → first ≡ earliest of_variables (listed of_names)
    → first ≡ earliest None (faults_of m)
in_two_steps m found of_variables of_names first is variables names both =
    both
    ∙ ((λ i. earliest (variables i) (listed (names i)))
    ∙ (earliest-listed (earliest None (faults_of_outcomes found)) (forms_faults m [] m.forms)
    ∙ (sym (earliest-append None (faults_of_outcomes found) (forms_faults m [] m.forms))
    ∙ ap (λ fs. earliest None (fs ++ forms_faults m [] m.forms)) (ap faults_of_outcomes is ∙ faults_of_outcomes-all_resolved_in (occurrences_of m)))))

pub right-none : (m : Module) (first : Option PlacedFault) → first ≡ earliest None (faults_of m) → first ≡ None → HasRightNames m
right-none m first is none = earliest-none (faults_of m) (sym is ∙ none)

-- an answer that tells the first fault
pub IfSome-told : (m : Module) (first : Option PlacedFault) (f : PlacedFault) (answer : ScopeFault) → first ≡ earliest None (faults_of m) → first ≡ Some f → placed_fault answer ≡ Some f → IfSome (placed_fault answer) (λ g. IsFirstFault m g)
IfSome-told m first f answer is some tells =
    let of_first : IsFirstFault m f = record {
      stands = earliest-stands (faults_of m) f (sym is ∙ some);
      first = earliest-first (faults_of m) f (sym is ∙ some);
    } in
    subst (λ o. IfSome o (λ g. IsFirstFault m g)) (sym tells) of_first
