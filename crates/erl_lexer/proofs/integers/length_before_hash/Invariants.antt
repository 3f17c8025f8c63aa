use Rattle.std.proofs.Common.{◌≡◌, ◌≤◌, ◌-◌, ◌+◌, length, drop}
use Rattle.erl_lexer.specs.Scan.{run, is_no_hash}
use Rattle.erl_lexer.proofs.integers.length_before_hash.Given as goal

abbrev pub invariant-loop-i : goal.invariant-loop-i
invariant-loop-i l = (l.i ≤ length l.text) × (l.i + run is_no_hash (drop l.i l.text) ≡ run is_no_hash l.text)

abbrev pub decreases-loop-i : goal.decreases-loop-i
decreases-loop-i l = length l.text - l.i
