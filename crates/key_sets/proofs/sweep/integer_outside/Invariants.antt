use Rattle.std.proofs.Common.{◌≡◌, length, ℤ, ◌≤◌, ◌≤ℤ◌, true}
use Rattle.key_sets.specs.Ranges.{IsPassed, spanned, first_integer}
use Rattle.key_sets.proofs.sweep.integer_outside.Given as goal

abbrev pub invariant-loop-range : goal.invariant-loop-range
invariant-loop-range l = record {
  within : l.reached.at ≤ length l.right;
  passed : IsPassed l.right 0 l.reached.at l.reached.seen;
  done : IsPassed l.left 0 l.range-index l.reached.seen;
  judged : (n : ℤ) → first_integer ≤ℤ n → n ≤ℤ l.reached.seen → spanned l.left n ≡ true → spanned l.right n ≡ true;
}
