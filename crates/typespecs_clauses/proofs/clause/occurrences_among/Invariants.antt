use Rattle.std.proofs.Common.{take}
use Rattle.typespecs_clauses.specs.Occurrences.{AreOccurrences}
use Rattle.typespecs_clauses.proofs.ClauseLaws.{own_in}
use Rattle.typespecs_clauses.proofs.clause.occurrences_among.Given as goal

abbrev pub invariant-types : goal.invariant-types
invariant-types l = AreOccurrences l.found (own_in (take l.t-index l.types))
