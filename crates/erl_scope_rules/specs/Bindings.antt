-- Which occurrence of a variable binds it, and the numbers of the bindings. Where two variables stand at one place, as in no text, the first counts.
use Rattle.std.specs.Prelude.{ℕ, zero, suc, List, [], ◌∷◌, Option, Some, None, Bool, true, false, ◌&&◌, cond, nat_eq, slice_get}
use Rattle.std.specs.Option.{option_map}
use Rattle.type_terms.specs.Keys.{Name, same_name}
use Rattle.erl_tree.specs.declared.token.Place.{Place}
use Rattle.erl_tree.specs.declared.form.Module.{Module}
use Rattle.erl_scope_rules.specs.declared.role.Role.{Role}
use Rattle.erl_scope_rules.specs.declared.role.Role.TheVariants.{Used, Met, Renewed}
use Rattle.erl_scope_rules.specs.Occurrences.{Mark, Occurrence, occurrences_of}

-- the binding of an occurrence that sees this one outside: a use has that one; a variable that a pattern meets has it too, and is a binding itself where there is none; a variable that is bound anew is its own
abbrev pub bound_by_role : Role → Mark → Option Mark → Option Mark
bound_by_role Used m outer = outer
bound_by_role Met m None = Some m
bound_by_role Met m (Some b) = Some b
bound_by_role Renewed m outer = Some m

-- the innermost binding of a name among the variables that are seen, the innermost first. What stands behind a variable in such a list is what that variable sees itself; so one that a pattern meets is a binding exactly where none of its name stands behind it. (One that is met and unsafe counts as a binding here: it is a fault, and stands before all that sees it.)
abbrev pub innermost : Name → List Mark → Option Mark
innermost x [] = None
innermost x (m ∷ ms) = cond (same_name m.name x) (bound_by_role m.role m (innermost x ms)) (innermost x ms)

-- the binding of an occurrence
abbrev pub binding_of : Occurrence → Option Mark
binding_of o = bound_by_role o.mark.role o.mark (innermost o.mark.name o.sees)

-- whether an occurrence in this role binds its variable, where it sees this binding outside
abbrev pub binds_in_role : Role → Option Mark → Bool
binds_in_role Used outer = false
binds_in_role Met None = true
binds_in_role Met (Some b) = false
binds_in_role Renewed outer = true

-- whether an occurrence is a binding
abbrev pub is_binding : Occurrence → Bool
is_binding o = binds_in_role o.mark.role (innermost o.mark.name o.sees)

-- the bindings among occurrences, in text order; their numbers are their positions in this list, from 0
abbrev pub bindings_in : List Occurrence → List Mark
bindings_in [] = []
bindings_in (o ∷ os) = cond (is_binding o) (o.mark ∷ bindings_in os) (bindings_in os)

abbrev pub same_place : Place → Place → Bool
same_place p q = nat_eq p.line q.line && nat_eq p.column q.column

-- the number of the binding that stands at a place
abbrev pub next_number : Option ℕ → Option ℕ
next_number None = None
next_number (Some n) = Some (suc n)

abbrev pub number_at : Place → List Mark → Option ℕ
number_at place [] = None
number_at place (m ∷ ms) = cond (same_place m.place place) (Some zero) (next_number (number_at place ms))

-- the number of a binding, where there is one
abbrev pub number_of : Option Mark → List Mark → Option ℕ
number_of None bindings = None
number_of (Some b) bindings = number_at b.place bindings

-- the number of the binding of the variable that stands at a place
abbrev pub number_standing_at : Place → List Occurrence → List Mark → Option ℕ
number_standing_at place [] bindings = None
number_standing_at place (o ∷ os) bindings = cond (same_place o.mark.place place) (number_of (binding_of o) bindings) (number_standing_at place os bindings)

-- the bindings of a module, by their numbers
abbrev pub bindings_of : Module → List Mark
bindings_of m = bindings_in (occurrences_of m)

-- the number of the variable that stands at a place of a module
abbrev pub variable_number : Module → Place → Option ℕ
variable_number m place = number_standing_at place (occurrences_of m) (bindings_of m)

-- the place of the binding with a number
abbrev pub binding_place : Module → ℕ → Option Place
binding_place m n = option_map (λ b. b.place) (slice_get (bindings_of m) n)
