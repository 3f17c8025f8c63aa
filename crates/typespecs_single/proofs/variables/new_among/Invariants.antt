use Rattle.std.proofs.Common.{take}
use Rattle.typespecs_clauses.proofs.ClauseLaws.{own_in}
use Rattle.typespecs_single.proofs.SeenNames.{AreSeen}
use Rattle.typespecs_single.proofs.variables.new_among.Given as goal

abbrev pub invariant-types : goal.invariant-types
invariant-types l = AreSeen l.names (own_in (take l.t-index l.types)) l.seen.keys l.new.items
