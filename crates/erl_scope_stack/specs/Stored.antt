-- What contracts see of what a scope stores.
use Rattle.std.specs.Prelude.{ℕ, List, [], ◌∷◌, ◌++◌, Option, Some, None}
use Rattle.type_terms.specs.Keys.{Name}
use Rattle.erl_tree.specs.declared.token.Place.{Place}
use Rattle.erl_scope_rules.specs.declared.role.Role.{Role}
use Rattle.erl_scope_rules.specs.declared.role.Role.TheVariants.{Used, Met, Renewed}
use Rattle.erl_scope_rules.specs.Occurrences.{Mark}
use Rattle.erl_scope_stack.specs.declared.entries.Seen.{Seen}
use Rattle.erl_scope_stack.specs.State.{State}
use Rattle.erl_scope_stack.specs.Named.{name_at}

-- a list that is stored with the latest last
abbrev pub latest_first : {A B : Type 0} → (A → B) → List A → List B
latest_first of [] = []
latest_first of (x ∷ xs) = latest_first of xs ++ of x ∷ []

abbrev pub mark_of : List Name → Seen → Mark
mark_of names e = record { name = name_at names e.name; place = e.place; role = e.role }

-- the state that is stored by these lists
abbrev pub stored : List Name → List Seen → (behind beside : List ℕ) → State
stored names seen behind beside = record { sees = latest_first (mark_of names) seen; ended = latest_first (name_at names) behind; aside = latest_first (name_at names) beside }

-- the place of the binding of a variable that stands at a place in a role, by that of the binding that it sees outside
abbrev pub place_by_role : Role → Place → Option Place → Option Place
place_by_role Used place outer = outer
place_by_role Met place None = Some place
place_by_role Met place (Some b) = Some b
place_by_role Renewed place outer = Some place
