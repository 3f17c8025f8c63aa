use Rattle.std.proofs.Common.{◌≤◌, suc, length}
use Rattle.erl_parser_exprs.specs.Expressions.{no_tests, read_tests}
use Rattle.erl_parser_exprs.specs.Levels.{level_at, guarded_seen}
use Rattle.erl_parser_exprs.proofs.ExprLoops.{GoingTests}
use Rattle.erl_parser_exprs.proofs.level.Level.tests.Given as goal

-- going on with what was read gives what reading gives
abbrev pub invariant-tests : goal.invariant-tests
invariant-tests g l = record {
  going : GoingTests (level_at l.self.limit) (guarded_seen l.guarded) l.rest (read_tests (level_at l.self.limit) (suc (length l.tokens)) no_tests l.tokens);
  low : l.guarded.height.depth ≤ l.self.limit;
  shorter : length l.rest ≤ length l.tokens;
}

abbrev pub decreases-tests : goal.decreases-tests
decreases-tests g l = length l.rest
