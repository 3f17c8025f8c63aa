use Rattle.std.proofs.Common.{length}
use Rattle.typespecs_terms.proofs.MapEntries.{IsRead}
use Rattle.typespecs_terms.proofs.maps.map_term.Given as goal

abbrev pub invariant-entries : goal.invariant-entries
invariant-entries l = IsRead l.entries l.parts l.initial.entries

abbrev pub decreases-entries : goal.decreases-entries
decreases-entries l = length l.entries
