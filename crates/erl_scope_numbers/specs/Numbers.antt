-- The numbers of variables, as they are looked up in the list of what became of a module's variables, in text order. Where two variables stand at one place, the first counts.
use Rattle.std.specs.Prelude.{ℕ, zero, List, [], ◌∷◌, Option, Some, None, cond, slice_get}
use Rattle.erl_tree.specs.declared.token.Place.{Place}
use Rattle.erl_scope_rules.specs.declared.resolved.Resolved.{Resolved}
use Rattle.erl_scope_rules.specs.Bindings.{same_place, next_number}

-- where the bindings stand, in text order; their numbers are their positions in this list, from 0
abbrev pub bound_places : List Resolved → List Place
bound_places [] = []
bound_places (r ∷ rs) = cond r.binds (r.place ∷ bound_places rs) (bound_places rs)

-- the number of the binding that stands at a place
abbrev pub number_of_place : Place → List Place → Option ℕ
number_of_place place [] = None
number_of_place place (p ∷ ps) = cond (same_place p place) (Some zero) (next_number (number_of_place place ps))

-- the number of a binding, where there is one
abbrev pub number_of_binding : Option Place → List Place → Option ℕ
number_of_binding None places = None
number_of_binding (Some place) places = number_of_place place places

-- the number of the binding of the variable that stands at a place, where the bindings stand at these
abbrev pub number_among : Place → List Resolved → List Place → Option ℕ
number_among place [] places = None
number_among place (r ∷ rs) places = cond (same_place r.place place) (number_of_binding r.binding places) (number_among place rs places)

-- the number of the binding of the variable that stands at a place
abbrev pub number_in_resolved : List Resolved → Place → Option ℕ
number_in_resolved found place = number_among place found (bound_places found)

-- where the binding with a number stands
abbrev pub place_in_resolved : List Resolved → ℕ → Option Place
place_in_resolved found number = slice_get (bound_places found) number
