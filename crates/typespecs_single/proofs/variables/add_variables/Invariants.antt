use Rattle.std.proofs.Common.{◌≡◌, ◌++◌, take}
use Rattle.typespecs_clauses.specs.Names.{texts}
use Rattle.typespecs_single.proofs.variables.add_variables.Given as goal

abbrev pub invariant-new : goal.invariant-new
invariant-new l = l.names ≡ l.initial.names ++ texts (take l.name-index l.name-items)
