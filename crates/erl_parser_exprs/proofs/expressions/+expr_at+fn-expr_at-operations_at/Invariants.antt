use Rattle.std.proofs.Common.{◌+◌, ◌*◌}
use Rattle.erl_parser_exprs.proofs.expressions.+expr_at+fn-expr_at-operations_at.Given as goal

abbrev pub decreases-expr_at : goal.decreases-expr_at
decreases-expr_at l = 2 * l.limit

-- what is inside is nested at most `levels` deep
abbrev pub decreases-operations_at : goal.decreases-operations_at
decreases-operations_at l = 2 * l.levels + 1
