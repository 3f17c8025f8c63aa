-- The look-ups in the list of what became of a module's variables are those of the rules of names.
use Rattle.std.proofs.Common.{◌≡◌, ℕ, zero, Bool, true, false, cond, List, [], ◌∷◌, map, slice_get, refl, ap, ◌∙◌, Option, Some, None}
use Rattle.std.specs.Option.{option_map}
use Rattle.std.proofs.lemmas.List.{append-nil}
use Rattle.std.proofs.lemmas.Option.{slice_get-map}
use Rattle.erl_tree.specs.declared.token.Place.{Place}
use Rattle.erl_tree.specs.declared.form.Module.{Module}
use Rattle.erl_scope_rules.specs.Occurrences.{Mark, Occurrence, occurrences_of}
use Rattle.erl_scope_rules.specs.Bindings.{innermost, bound_by_role, binds_in_role, is_binding, binding_of, bindings_in, bindings_of, same_place, next_number, number_at, number_of as number_of_mark, number_standing_at, variable_number, binding_place}
use Rattle.erl_scope_rules.specs.Resolution.{resolved_in, all_resolved_in, resolved_of}
use Rattle.erl_scope_numbers.specs.Numbers.{bound_places, number_of_place, number_of_binding, number_among, number_in_resolved, place_in_resolved}
use Rattle.erl_scope_numbers.specs.Table.{Table, IsTableOf, number_of, place_of}

abbrev place_of_mark : Mark → Place
place_of_mark m = m.place

abbrev pub marks_places : List Mark → List Place
marks_places marks = map place_of_mark marks

-- the bindings stand where the rules say
pub bound_places-bindings_in : (os : List Occurrence) → bound_places (all_resolved_in [] [] os) ≡ marks_places (bindings_in os)
bound_places-bindings_in [] = refl
bound_places-bindings_in (o ∷ os) =
    ap (λ sees. cond (binds_in_role o.mark.role (innermost o.mark.name sees)) (o.mark.place ∷ bound_places (all_resolved_in [] [] os)) (bound_places (all_resolved_in [] [] os))) (append-nil o.sees) ∙ by (is_binding o) (bound_places-bindings_in os)
  where
    by : (b : Bool) → bound_places (all_resolved_in [] [] os) ≡ marks_places (bindings_in os) → cond b (o.mark.place ∷ bound_places (all_resolved_in [] [] os)) (bound_places (all_resolved_in [] [] os)) ≡ marks_places (cond b (o.mark ∷ bindings_in os) (bindings_in os))
    by true h = ap (λ ps. o.mark.place ∷ ps) h
    by false h = h

-- and have the same numbers
pub number_of_place-number_at : (at : Place) (marks : List Mark) → number_of_place at (marks_places marks) ≡ number_at at marks
number_of_place-number_at at [] = refl
number_of_place-number_at at (m ∷ marks) = ap (λ n. cond (same_place m.place at) (Some zero) (next_number n)) (number_of_place-number_at at marks)

pub number_of_binding-number_of_mark : (o : Option Mark) (marks : List Mark) → number_of_binding (option_map place_of_mark o) (marks_places marks) ≡ number_of_mark o marks
number_of_binding-number_of_mark None marks = refl
number_of_binding-number_of_mark (Some m) marks = number_of_place-number_at m.place marks

-- so each variable has the number of its binding
pub number_among-number_standing_at : (at : Place) (os : List Occurrence) (marks : List Mark) → number_among at (all_resolved_in [] [] os) (marks_places marks) ≡ number_standing_at at os marks
number_among-number_standing_at at [] marks = refl
number_among-number_standing_at at (o ∷ os) marks = λ i. cond (same_place o.mark.place at) (number i) (number_among-number_standing_at at os marks i)
  where
    number : number_of_binding (resolved_in [] [] o).binding (marks_places marks) ≡ number_of_mark (binding_of o) marks
    number =
        ap (λ sees. number_of_binding (option_map place_of_mark (bound_by_role o.mark.role o.mark (innermost o.mark.name sees))) (marks_places marks)) (append-nil o.sees) ∙ number_of_binding-number_of_mark (binding_of o) marks

pub number_in_resolved-variable_number : (m : Module) (place : Place) → number_in_resolved (resolved_of m) place ≡ variable_number m place
number_in_resolved-variable_number m place =
    ap (number_among place (resolved_of m)) (bound_places-bindings_in (occurrences_of m)) ∙ number_among-number_standing_at place (occurrences_of m) (bindings_of m)

pub place_in_resolved-binding_place : (m : Module) (number : ℕ) → place_in_resolved (resolved_of m) number ≡ binding_place m number
place_in_resolved-binding_place m number =
    ap (λ ps. slice_get ps number) (bound_places-bindings_in (occurrences_of m)) ∙ slice_get-map place_of_mark (bindings_of m) number

pub number_of-variable_number : (m : Module) (table : Table) (place : Place) → IsTableOf (resolved_of m) table → number_of table place ≡ variable_number m place
number_of-variable_number m table place is = is.0 place ∙ number_in_resolved-variable_number m place

pub place_of-binding_place : (m : Module) (table : Table) (number : ℕ) → IsTableOf (resolved_of m) table → place_of table number ≡ binding_place m number
place_of-binding_place m table number is = is.1 number ∙ place_in_resolved-binding_place m number
