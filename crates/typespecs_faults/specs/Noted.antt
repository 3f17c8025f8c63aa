-- Faults that are noted by what a module declares.
use Rattle.std.specs.Prelude.{◌≡◌, List, map, Option}
use Rattle.typespecs_rules.specs.declared.fault.PlacedFault.{PlacedFault}
use Rattle.typespecs_rules.specs.Declarations.{Declarations}
use Rattle.typespecs_rules.specs.Earliest.{earliest}
use Rattle.typespecs_names.specs.Numbers.{KnowsNumbers}
use Rattle.typespecs_faults.specs.declared.scope.Scope.{Scope}
use Rattle.typespecs_faults.specs.Tables.{HasSameRecords, table_records, of_declaration}

-- each look-up gives what the declarations give
pub record KnowsDeclared (scope : Scope) (d : Declarations) : Type 0 where
  pub numbers : KnowsNumbers scope.numbers.now d
  pub records : HasSameRecords (table_records scope.records) (map of_declaration d.records)

-- the first fault, after these are noted
abbrev pub IsNoted : Scope → Option PlacedFault → Option PlacedFault → (Declarations → List PlacedFault) → Type 0
IsNoted scope old new faults = (d : Declarations) → KnowsDeclared scope d → new ≡ earliest old (faults d)
