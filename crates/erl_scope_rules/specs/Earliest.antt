-- The first of some faults, as it stands after each of them when they are named one after the other.
use Rattle.std.specs.Prelude.{List, [], ◌∷◌, Option, Some, None, cond}
use Rattle.erl_scope_rules.specs.declared.fault.PlacedFault.{PlacedFault}
use Rattle.erl_scope_rules.specs.ScopeFaults.{is_earlier}

-- the one that stands, unless there is none yet or the new one is earlier
abbrev pub earlier : Option PlacedFault → PlacedFault → PlacedFault
earlier None new = new
earlier (Some f) new = cond (is_earlier new f) new f

-- the first of the one that stands and of these
abbrev pub earliest : Option PlacedFault → List PlacedFault → Option PlacedFault
earliest first [] = first
earliest first (f ∷ fs) = earliest (Some (earlier first f)) fs
