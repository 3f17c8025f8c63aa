use Rattle.std.proofs.Common.{◌≡◌, ◌⊎◌, ℕ, true}
use Rattle.std.specs.List.{Contains}
use Rattle.type_terms.specs.BareNumbers.{open_by}
use Rattle.type_terms.proofs.open_table.mark_all.Given as goal

abbrev pub invariant-variables : goal.invariant-variables
invariant-variables l = (n i : ℕ) → open_by l.table n i ≡ true → (open_by l.initial.table n i ≡ true) ⊎ ((n ≡ l.number) × Contains l.found i)
