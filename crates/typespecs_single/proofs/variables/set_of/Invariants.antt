use Rattle.typespecs_single.proofs.SeenNames.{HasNamesTo}
use Rattle.typespecs_single.proofs.variables.set_of.Given as goal

abbrev pub invariant-names : goal.invariant-names
invariant-names l = HasNamesTo l.names l.name-index l.set.keys
