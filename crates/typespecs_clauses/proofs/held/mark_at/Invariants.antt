use Rattle.std.proofs.Common.{◌≡◌, ℕ, ◌+◌, ◌-◌, length, get_or, false}
use Rattle.typespecs_clauses.proofs.held.mark_at.Given as goal

abbrev pub invariant-longer : goal.invariant-longer
invariant-longer l = (i : ℕ) → get_or l.marks i false ≡ get_or l.initial.marks i false

abbrev pub decreases-longer : goal.decreases-longer
decreases-longer l = l.number + 1 - length l.marks
