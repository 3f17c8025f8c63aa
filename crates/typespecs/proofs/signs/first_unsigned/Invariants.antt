use Rattle.std.proofs.Common.{take}
use Rattle.erl_tree.specs.Lists.{Every}
use Rattle.typespecs_rules.specs.TypeFaults.{IsWellSignedArrow}
use Rattle.typespecs.specs.Names.{arrows_seen}
use Rattle.typespecs.proofs.signs.first_unsigned.Given as goal

abbrev pub invariant-loop-number : goal.invariant-loop-number
invariant-loop-number l = Every (IsWellSignedArrow l.defs) (take l.number (arrows_seen l.arrows))
