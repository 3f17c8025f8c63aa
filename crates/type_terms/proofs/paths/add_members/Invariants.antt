use Rattle.std.proofs.Common.{◌≡◌, ℕ, get_or, true, false}
use Rattle.std.specs.List.{Contains}
use Rattle.type_terms.proofs.paths.add_members.Given as goal

abbrev pub invariant-members : goal.invariant-members
invariant-members l = (i : ℕ) → Contains l.waiting i → get_or l.set i false ≡ true
