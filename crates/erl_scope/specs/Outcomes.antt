-- The faults of variables, by what became of them.
use Rattle.std.specs.Prelude.{List, [], ◌∷◌, Option, Some, None}
use Rattle.erl_scope_rules.specs.declared.fault.PlacedFault.{PlacedFault}
use Rattle.erl_scope_rules.specs.declared.resolved.Resolved.{Resolved}
use Rattle.erl_scope_rules.specs.ScopeFaults.{at, faults_of_each, faults_of_optional}

-- the fault of a variable, at its place
abbrev pub outcome_faults : Resolved → List PlacedFault
outcome_faults r = faults_of_optional (λ fault. at fault r.place) r.fault

-- the faults of variables, in turn
abbrev pub faults_of_outcomes : List Resolved → List PlacedFault
faults_of_outcomes found = faults_of_each outcome_faults found

-- the list of a fault, if there is one
abbrev pub listed : Option PlacedFault → List PlacedFault
listed None = []
listed (Some f) = f ∷ []
