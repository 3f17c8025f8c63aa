use Rattle.std.proofs.Common.{take}
use Rattle.typespecs_clauses.specs.Names.{texts}
use Rattle.typespecs_clauses.specs.Occurrences.{ArePlaces}
use Rattle.typespecs_clauses.proofs.names.places_of.Given as goal

abbrev pub invariant-names : goal.invariant-names
invariant-names l = ArePlaces l.places (texts (take l.place l.names))
