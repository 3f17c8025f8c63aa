use Rattle.std.proofs.Common.{◌≡◌, ℕ, ◌<◌, get_or, true}
use Rattle.type_terms.specs.BareNumbers.{open_by}
use Rattle.type_terms.proofs.open_table.says_open.Given as goal

abbrev pub invariant-variables : goal.invariant-variables
invariant-variables l = (k : ℕ) → k < l.variable-index → open_by l.table l.number (get_or l.variables k 0) ≡ true
