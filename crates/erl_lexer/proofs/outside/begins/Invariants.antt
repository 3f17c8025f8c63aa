use Rattle.std.proofs.Common.{◌≡◌, ◌≤◌, ◌-◌, length, drop}
use Rattle.erl_tree.specs.Profile.{begins}
use Rattle.erl_lexer.proofs.outside.begins.Given as goal

abbrev pub invariant-loop-i : goal.invariant-loop-i
invariant-loop-i l = (l.i ≤ length l.front) × (begins (drop l.i l.front) (drop l.i l.text) ≡ begins l.front l.text)

abbrev pub decreases-loop-i : goal.decreases-loop-i
decreases-loop-i l = length l.front - l.i
