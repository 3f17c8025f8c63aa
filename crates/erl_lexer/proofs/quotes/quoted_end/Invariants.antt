use Rattle.std.proofs.Common.{◌≤◌, ◌-◌, length}
use Rattle.erl_lexer.proofs.Quoting.{IsWalked}
use Rattle.erl_lexer.proofs.quotes.quoted_end.Given as goal

abbrev pub invariant-loop-i : goal.invariant-loop-i
invariant-loop-i l = record {
  within : l.i ≤ length l.text;
  walked : IsWalked l.quote l.text l.i;
}

abbrev pub decreases-loop-i : goal.decreases-loop-i
decreases-loop-i l = length l.text - l.i
