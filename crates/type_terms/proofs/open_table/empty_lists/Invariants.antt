use Rattle.std.proofs.Common.{◌≡◌, ℕ, [], get_or}
use Rattle.type_terms.proofs.open_table.empty_lists.Given as goal

abbrev pub invariant-lists : goal.invariant-lists
invariant-lists g l = (n : ℕ) → get_or l.lists.items n [] ≡ []
