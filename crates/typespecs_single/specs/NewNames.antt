-- Names that are new behind others.
use Rattle.std.specs.Prelude.{List, not}
use Rattle.std.specs.List.{filter}
use Rattle.type_terms.specs.Keys.{Name}
use Rattle.typespecs_rules.specs.TypeVariables.{first_occurrences}
use Rattle.typespecs_rules.specs.TypeFaults.{stands_among}

-- the names of a list that don't stand among others, each once in the order of first occurrence
abbrev pub new_behind : List Name → List Name → List Name
new_behind names xs = filter (λ x. not (stands_among x names)) (first_occurrences xs)
