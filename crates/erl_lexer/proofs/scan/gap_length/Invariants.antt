use Rattle.std.proofs.Common.{◌≡◌, ◌≤◌, ◌-◌, ◌+◌, length, drop, false}
use Rattle.erl_lexer.specs.Scan.{gap_run}
use Rattle.erl_lexer.proofs.scan.gap_length.Given as goal

abbrev pub invariant-loop-i : goal.invariant-loop-i
invariant-loop-i l = (l.i ≤ length l.text) × (l.i + gap_run l.commented (drop l.i l.text) ≡ gap_run false l.text)

abbrev pub decreases-loop-i : goal.decreases-loop-i
decreases-loop-i l = length l.text - l.i
