use Rattle.std.proofs.Common.{◌≡◌, ◌≤◌, ◌-◌, ◌+◌, length, drop}
use Rattle.erl_tree.specs.Lexis.{is_digit_of}
use Rattle.erl_lexer.specs.Scan.{grouped_run}
use Rattle.erl_lexer.proofs.integers.grouped_length.Given as goal

abbrev pub invariant-loop-i : goal.invariant-loop-i
invariant-loop-i l = (l.i ≤ length l.text) × (l.i + grouped_run (is_digit_of l.base) (drop l.i l.text) ≡ grouped_run (is_digit_of l.base) l.text)

abbrev pub decreases-loop-i : goal.decreases-loop-i
decreases-loop-i l = length l.text - l.i
