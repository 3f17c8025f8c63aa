use Rattle.std.proofs.Common.{arith}
use Rattle.std.proofs.lemmas.Result.{err_from_is_err_and}
use Rattle.erl_parser_exprs.specs.Levels.{level_at, guarded_seen}
use Rattle.erl_parser_exprs.proofs.ExprLoops.{tests_begin, tests_step, tests_end, tests_fail}
use Rattle.erl_parser_exprs.proofs.level.Level.tests.Goals as goal

pub tests-init : goal.tests-init
tests-init g c = record {
  going = tests_begin (level_at c.args.self.now.limit) _ c.args.tokens.now c.new-guarded.ensures.exact;
  low = omega (arith, c.new-guarded.ensures.depth);
  shorter = omega arith;
}

pub returns-in_err-test-clause-exact : goal.returns-in_err-test-clause-exact
returns-in_err-test-clause-exact g c =
    let p = err_from_is_err_and c.from_residual.result c.from_residual.ensures.1 in
    rw (p.1, p.2) (tests_fail (level_at c.args.self.now.limit) c.in_err-test.field-0.0 (guarded_seen c.tests.guarded) c.tests.rest.now _ c.tests.invariant.going c.in_err-test.ensures.exact)

pub returns-in-None-clause-exact : goal.returns-in-None-clause-exact
returns-in-None-clause-exact g c = tests_end (level_at c.args.self.now.limit) (guarded_seen c.tests.guarded) c.tests.rest.now _ (guarded_seen c.push.new.self) c.in_ok-test.test c.in_ok-test.behind.now c.tests.invariant.going c.in_ok-test.ensures.exact c.in-None.ensures.exact c.in_ok-push.ensures.exact

pub tests-preserved : goal.tests-preserved
tests-preserved g c = record {
  going = tests_step (level_at c.args.self.now.limit) (guarded_seen c.tests.guarded) c.tests.rest.now _ (guarded_seen c.push.new.self) (guarded_seen c.separate.new.self) c.in_ok-test.test c.in_ok-test.behind.now c.in-Some.is_semicolon c.in-Some.place c.in-Some.behind.now c.tests.invariant.going c.in_ok-test.ensures.exact c.in-Some.ensures.exact (omega (arith, c.in_ok-test.ensures.shorter, c.in-Some.ensures.shorter)) c.in_ok-push.ensures.exact c.in_ok-separate-in-Some.ensures.exact;
  low = omega (arith, c.in_ok-push.ensures.depth, c.in_ok-separate-in-Some.ensures.depth, c.tests.invariant.low, c.in_ok-test.ensures.low);
  shorter = omega (arith, c.in_ok-test.ensures.shorter, c.in-Some.ensures.shorter, c.tests.invariant.shorter);
}
