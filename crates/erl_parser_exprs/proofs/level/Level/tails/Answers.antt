use Rattle.std.proofs.Common.{arith}
use Rattle.std.proofs.lemmas.Result.{err_from_is_err_and}
use Rattle.erl_parser_exprs.specs.Levels.{level_at, headed_seen}
use Rattle.erl_parser_exprs.proofs.ExprLoops.{tails_step, tails_end, tails_fail}
use Rattle.erl_parser_exprs.proofs.level.Level.tails.Goals as goal

pub returns-in_err-next-clause-exact : goal.returns-in_err-next-clause-exact
returns-in_err-next-clause-exact g c =
    let p = err_from_is_err_and c.from_residual.result c.from_residual.ensures.1 in
    rw (p.1, p.2) (tails_fail (level_at c.args.self.now.limit) c.args.self.now.limit c.in_err-next.field-0.0 (headed_seen c.tails.found) c.tails.rest.now _ c.in-Some.tail c.tails.invariant.going c.in-Some.ensures.exact c.in_err-next.ensures.exact)

pub tails-preserved : goal.tails-preserved
tails-preserved g c = record {
  going = tails_step (level_at c.args.self.now.limit) c.args.self.now.limit (headed_seen c.tails.found) c.tails.rest.now _ c.in-Some.tail (headed_seen c.in_ok-next.next) c.in_ok-next.behind.now c.tails.invariant.going c.in-Some.ensures.exact c.in_ok-next.ensures.exact (omega (arith, c.in-Some.ensures.shorter, c.in_ok-next.ensures.shorter));
  low = c.in_ok-next.ensures.low;
  shorter = omega (arith, c.in-Some.ensures.shorter, c.in_ok-next.ensures.shorter, c.tails.invariant.shorter);
}

pub returns-clause-exact : goal.returns-clause-exact
returns-clause-exact g c = tails_end (level_at c.args.self.now.limit) c.args.self.now.limit (headed_seen c.tails.found) c.tails.rest.now _ c.tails.invariant.going c.in_default.ensures.exact
