use Rattle.std.proofs.Common.{ℕ, ◌<◌, get_or}
use Rattle.type_terms.specs.SignTables.{Covers, no_signs}
use Rattle.type_terms.proofs.sign_table.have_all.Given as goal

abbrev pub invariant-others : goal.invariant-others
invariant-others l = (i : ℕ) → i < l.number → Covers (get_or l.parameters i no_signs) (get_or l.others i no_signs)
