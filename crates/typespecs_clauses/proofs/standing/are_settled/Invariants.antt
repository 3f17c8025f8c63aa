use Rattle.std.proofs.Common.{◌≡◌, ◌<◌, ℕ, get_or, false, true}
use Rattle.typespecs_clauses.proofs.standing.are_settled.Given as goal

abbrev pub invariant-places : goal.invariant-places
invariant-places l = (k : ℕ) → k < l.place-index → get_or l.settled (get_or l.places k 0) false ≡ true
