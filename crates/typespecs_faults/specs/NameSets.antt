-- What contracts see of sets of names.
use Rattle.std.specs.Prelude.{ℕ, List, map, Bool, ◌||◌}
use Rattle.std.specs.Borrow.{Bor}
use Rattle.type_terms.specs.Keys.{Name}
use Rattle.typespecs_rules.specs.TypeFaults.{stands_among}
use Rattle.typespecs_faults.specs.declared.name_set.NameSet.{NameSet}

-- the names that are listed
abbrev pub names_in : List (Bor (List ℕ)) → List Name
names_in keys = map (λ k. k.now) keys

-- whether a set has a name
abbrev pub has_name : NameSet → Name → Bool
has_name set x = set.any || stands_among x (names_in set.names.keys)
