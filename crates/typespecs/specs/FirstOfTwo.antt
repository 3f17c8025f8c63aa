-- The first of two faults, of which each may be missing.
use Rattle.std.specs.Prelude.{Option, Some, None, cond}
use Rattle.typespecs_rules.specs.declared.fault.PlacedFault.{PlacedFault}
use Rattle.typespecs_rules.specs.TypeFaults.{is_earlier}

abbrev pub first_of_two : Option PlacedFault → Option PlacedFault → Option PlacedFault
first_of_two None new = new
first_of_two (Some f) None = Some f
first_of_two (Some f) (Some g) = cond (is_earlier g f) (Some g) (Some f)
