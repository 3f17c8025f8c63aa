use Rattle.std.proofs.Common.{◌≡◌, ◌≤◌, ◌-◌, ◌+◌, length, drop}
use Rattle.erl_lexer.specs.Scan.{run, is_continuation}
use Rattle.erl_lexer.proofs.scan.continuations.Given as goal

abbrev pub invariant-loop-i : goal.invariant-loop-i
invariant-loop-i l = (l.i ≤ length l.text) × (l.i + run is_continuation (drop l.i l.text) ≡ run is_continuation l.text)

abbrev pub decreases-loop-i : goal.decreases-loop-i
decreases-loop-i l = length l.text - l.i
