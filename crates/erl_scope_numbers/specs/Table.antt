-- What contracts see of the numbers of a module's variables: a list of numbers by places, and the places of the bindings.
use Rattle.std.specs.Prelude.{◌≡◌, ℕ, List, [], ◌∷◌, Option, Some, None, cond, slice_get}
use Rattle.std.specs.Option.{option_flatten, option_and_then}
use Rattle.erl_tree.specs.declared.token.Place.{Place}
use Rattle.erl_scope_rules.specs.declared.resolved.Resolved.{Resolved}
use Rattle.erl_scope_rules.specs.Bindings.{same_place}
use Rattle.erl_scope_numbers.specs.Numbers.{number_in_resolved, place_in_resolved}

-- a place at which a variable stands, and the number of its binding, if it has one
abbrev pub Entry : Type 0
Entry = Place × Option ℕ

-- what the first entry of a place says, if the place has one
abbrev pub entry_at : Place → List Entry → Option (Option ℕ)
entry_at place [] = None
entry_at place (e ∷ es) = cond (same_place e.0 place) (Some e.1) (entry_at place es)

-- the number that is listed for a place
abbrev pub number_listed : Place → List Entry → Option ℕ
number_listed place entries = option_flatten (entry_at place entries)

-- what is listed for a variable, where these are the numbers of the bindings
abbrev pub entry_for : List Entry → Resolved → Entry
entry_for numbers r = (r.place, option_and_then (λ p. number_listed p numbers) r.binding)

pub record Table : Type 0 where
  pub numbers : List Entry
  pub bindings : List Place

-- the number of the binding of the variable that stands at a place
abbrev pub number_of : Table → Place → Option ℕ
number_of table place = number_listed place table.numbers

-- where the binding with a number stands
abbrev pub place_of : Table → ℕ → Option Place
place_of table number = slice_get table.bindings number

-- whether a table tells of each place and each number what the list of what became of the variables tells
abbrev pub IsTableOf : List Resolved → Table → Type 0
IsTableOf found table =
    ((place : Place) → number_of table place ≡ number_in_resolved found place) × ((number : ℕ) → place_of table number ≡ place_in_resolved found number)
