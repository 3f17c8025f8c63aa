use Rattle.std.proofs.Common.{◌≡◌, ◌≤◌, ◌-◌, length, drop}
use Rattle.erl_tree.specs.Profile.{further}
use Rattle.erl_lexer.specs.Scan.{based_run}
use Rattle.erl_lexer.proofs.integers.based_length.Given as goal

abbrev pub invariant-loop-i : goal.invariant-loop-i
invariant-loop-i l = record {
  within : l.i ≤ length l.text;
  base : l.base ≤ 37;
  rest : further l.i (based_run l.base (drop l.i l.text)) ≡ based_run 0 l.text;
}

abbrev pub decreases-loop-i : goal.decreases-loop-i
decreases-loop-i l = length l.text - l.i
