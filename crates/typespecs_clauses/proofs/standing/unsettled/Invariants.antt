use Rattle.std.proofs.Common.{◌≡◌, ℕ, get_or, false}
use Rattle.typespecs_clauses.proofs.standing.unsettled.Given as goal

abbrev pub invariant-bounds : goal.invariant-bounds
invariant-bounds l = (j : ℕ) → get_or l.settled j false ≡ false
