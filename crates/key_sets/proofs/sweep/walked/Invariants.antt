use Rattle.std.proofs.Common.{length, ◌-◌, ◌≤◌, ◌≤ℤ◌}
use Rattle.key_sets.specs.Ranges.{IsPassed, IsCovered}
use Rattle.key_sets.proofs.sweep.walked.Given as goal

abbrev pub invariant-loop-at : goal.invariant-loop-at
invariant-loop-at l = record {
  further : l.fn.from.at ≤ l.at;
  within : l.at ≤ length l.ranges;
  up : l.fn.from.seen ≤ℤ l.seen;
  passed : IsPassed l.ranges l.fn.from.at l.at l.seen;
  covered : IsCovered l.ranges l.fn.from.seen l.seen;
}

abbrev pub decreases-loop-at : goal.decreases-loop-at
decreases-loop-at l = length l.ranges - l.at
