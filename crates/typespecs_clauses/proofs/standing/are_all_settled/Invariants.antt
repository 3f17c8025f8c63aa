use Rattle.std.proofs.Common.{◌≡◌, ◌<◌, ℕ, get_or, false, true}
use Rattle.typespecs_clauses.proofs.standing.are_all_settled.Given as goal

abbrev pub invariant-places : goal.invariant-places
invariant-places l = (j : ℕ) → j < l.place → get_or l.settled j false ≡ true
