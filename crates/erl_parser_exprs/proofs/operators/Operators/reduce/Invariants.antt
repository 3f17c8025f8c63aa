use Rattle.std.proofs.Common.{◌≡◌, ◌≤◌, ◌+◌, length}
use Rattle.erl_parser_exprs.specs.Operations.{reduced}
use Rattle.erl_parser_exprs.specs.Waiting.{operand_seen, waits, FitIn}
use Rattle.erl_parser_exprs.proofs.operators.Operators.reduce.Given as goal

-- going on gives what reducing from the start gives
abbrev pub invariant-reducing : goal.invariant-reducing
invariant-reducing l = record {
  going : reduced l.least (waits l.self) (operand_seen l.operand) ≡ reduced l.fn.least (waits l.fn.self) (operand_seen l.fn.operand);
  fits : FitIn l.fn.self.limit (waits l.self);
  low : l.operand.expr.height.depth + length (waits l.self) ≤ l.fn.self.limit;
  limit : l.self.limit ≡ l.fn.self.limit;
  fewer : length (waits l.self) ≤ length (waits l.fn.self);
}

abbrev pub decreases-reducing : goal.decreases-reducing
decreases-reducing l = length (waits l.self)
