use Rattle.std.proofs.Common.{◌≡◌, ℕ, ◌+◌, ◌-◌, length, get_or}
use Rattle.type_terms.specs.SignTables.{no_signs}
use Rattle.type_terms.proofs.parameter_signs.add_at.Given as goal

abbrev pub invariant-longer : goal.invariant-longer
invariant-longer l = (i : ℕ) → get_or l.found i no_signs ≡ get_or l.initial.found i no_signs

abbrev pub decreases-longer : goal.decreases-longer
decreases-longer l = l.place + 1 - length l.found
