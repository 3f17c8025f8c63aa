use Rattle.std.proofs.Common.{◌≡◌, ◌++◌, map, take}
use Rattle.typespecs.proofs.signs.add_clause_places.Given as goal

abbrev pub invariant-loop-clause : goal.invariant-loop-clause
invariant-loop-clause l = l.places ≡ l.initial.places ++ map (λ c. c.place) (take l.clause-index l.clauses)
