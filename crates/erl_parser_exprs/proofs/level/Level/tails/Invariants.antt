use Rattle.std.proofs.Common.{◌≤◌, ◌+◌, suc, length}
use Rattle.erl_parser_exprs.specs.Expressions.{read_tails}
use Rattle.erl_parser_exprs.specs.Levels.{level_at, headed_seen}
use Rattle.erl_parser_exprs.proofs.ExprLoops.{GoingTails}
use Rattle.erl_parser_exprs.proofs.level.Level.tails.Given as goal

-- going on with what was read gives what reading gives
abbrev pub invariant-tails : goal.invariant-tails
invariant-tails g l = record {
  going : GoingTails (level_at l.self.limit) l.self.limit (headed_seen l.found) l.rest (read_tails (suc (length l.tokens)) (level_at l.self.limit) l.self.limit (headed_seen l.fn.first) l.tokens);
  low : l.found.expr.height.depth ≤ l.self.limit + 1;
  shorter : length l.rest ≤ length l.tokens;
}

abbrev pub decreases-tails : goal.decreases-tails
decreases-tails g l = length l.rest
