use Rattle.std.proofs.Common.{arith}
use Rattle.std.proofs.lemmas.Result.{err_from_is_err_and}
use Rattle.erl_parser.proofs.FormLoops.{tokens_end, tokens_step, tokens_fail}
use Rattle.erl_parser.proofs.skipped.to_dot.Goals as goal

pub returns-in-Some-clause-exact : goal.returns-in-Some-clause-exact
returns-in-Some-clause-exact c = tokens_end c.tokens.found c.tokens.marks c.tokens.rest.now _ c.tokens.invariant.going c.in-Some.place c.in-Some.behind.now _ c.in-Some.ensures.exact c.in_ok-push.ensures.ok

pub returns-in_err-token-clause-exact : goal.returns-in_err-token-clause-exact
returns-in_err-token-clause-exact c =
    let p = err_from_is_err_and c.from_residual-in_err-token.result c.from_residual-in_err-token.ensures.1 in
    rw (p.1, p.2) (tokens_fail c.tokens.found c.tokens.marks c.tokens.rest.now _ c.tokens.invariant.going c.in_err-token.field-0.0 c.in_default.ensures.exact c.in_err-token.ensures.exact)

pub tokens-preserved : goal.tokens-preserved
tokens-preserved c = record {
  going = tokens_step c.tokens.found c.tokens.marks c.tokens.rest.now _ c.tokens.invariant.going c.in_ok-token.token c.in_ok-token.place c.in_ok-token.behind.now _ _ c.in_default.ensures.exact c.in_ok-token.ensures.exact c.in_ok-push-2.ensures.ok c.in_ok-push-3.ensures.ok;
  shorter = omega (arith, c.in_ok-token.ensures.shorter, c.tokens.invariant.shorter);
}
