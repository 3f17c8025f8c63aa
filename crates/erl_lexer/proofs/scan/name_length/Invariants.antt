use Rattle.std.proofs.Common.{◌≡◌, ◌≤◌, ◌-◌, ◌+◌, length, drop}
use Rattle.erl_tree.specs.Lexis.{is_name}
use Rattle.erl_lexer.specs.Scan.{run}
use Rattle.erl_lexer.proofs.scan.name_length.Given as goal

abbrev pub invariant-loop-i : goal.invariant-loop-i
invariant-loop-i l = (l.i ≤ length l.text) × (l.i + run is_name (drop l.i l.text) ≡ run is_name l.text)

abbrev pub decreases-loop-i : goal.decreases-loop-i
decreases-loop-i l = length l.text - l.i
