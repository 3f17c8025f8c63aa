use Rattle.std.proofs.Common.{◌≡◌, ℕ, ◌+◌, ◌-◌, length, get_or, false}
use Rattle.type_terms.proofs.open_table.mark_in.Given as goal

abbrev pub invariant-longer : goal.invariant-longer
invariant-longer l = (i : ℕ) → get_or l.parameters i false ≡ get_or l.initial.parameters i false

abbrev pub decreases-longer : goal.decreases-longer
decreases-longer l = l.parameter + 1 - length l.parameters
