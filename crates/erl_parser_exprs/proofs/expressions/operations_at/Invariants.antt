use Rattle.std.proofs.Common.{◌≡◌, ◌≤◌, length}
use Rattle.erl_parser_exprs.specs.Expressions.{read_expr}
use Rattle.erl_parser_exprs.specs.Waiting.{waits, FitIn}
use Rattle.erl_parser_exprs.proofs.ExprOperations.{GoingOperations}
use Rattle.erl_parser_exprs.proofs.expressions.operations_at.Given as goal

-- going on with what was read gives what reading gives
abbrev pub invariant-operations : goal.invariant-operations
invariant-operations g l = record {
  going : GoingOperations l.limit (waits l.operators) l.rest (read_expr l.limit l.tokens);
  limit : l.operators.limit ≡ l.limit;
  fits : FitIn l.limit (waits l.operators);
  low : length (waits l.operators) ≤ l.limit;
  shorter : length l.rest ≤ length l.tokens;
}

abbrev pub decreases-operations : goal.decreases-operations
decreases-operations g l = length l.rest
