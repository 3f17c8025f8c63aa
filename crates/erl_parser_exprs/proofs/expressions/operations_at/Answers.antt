use Rattle.std.proofs.Common.{◌∙◌, ap, refl, length, arith}
use Rattle.std.proofs.lemmas.Result.{err_from_is_err_and}
use Rattle.erl_parser_exprs.specs.declared.operators.Waiting.TheVariants.{Sign}
use Rattle.erl_parser_exprs.specs.Waiting.{waits}
use Rattle.erl_parser_tokens.proofs.LoopLaws.{gives_by}
use Rattle.erl_parser_exprs.proofs.Waits.{fit_none, fit_more}
use Rattle.erl_parser_exprs.proofs.ExprOperations.{operations_begin, sign_step, sign_too_deep, operand_fails, operator_step, operator_fails, operand_ends, ended_low}
use Rattle.erl_parser_exprs.proofs.expressions.operations_at.Goals as goal

pub operations-init : goal.operations-init
operations-init g c =
    let e = ap length c.new-operators.ensures.waits in
    record {
      going = operations_begin c.args.limit _ c.args.tokens.now c.new-operators.ensures.waits;
      limit = c.new-operators.ensures.limit;
      fits = fit_none c.args.limit _ c.new-operators.ensures.waits;
      low = omega (arith, e);
      shorter = omega arith;
    }

pub returns-then-levels-eq0-clause-exact : goal.returns-then-levels-eq0-clause-exact
returns-then-levels-eq0-clause-exact g c =
    sign_too_deep c.args.limit (waits c.operations.operators) c.operations.rest.now _ c.in-Some.sign c.in-Some.place c.in-Some.behind.now c.levels-levels.result c.operations.invariant.going (omega (arith, c.levels-levels.ensures, c.operations.invariant.limit)) c.in-Some.ensures.exact c.if-levels-eq0.true

pub operations-preserved-in-Some : goal.operations-preserved-in-Some
operations-preserved-in-Some g c =
    let e = ap length c.in_ok-push.ensures.ok in
    record {
      going = sign_step c.args.limit (waits c.operations.operators) c.operations.rest.now _ c.in-Some.sign c.in-Some.place c.in-Some.behind.now c.levels-levels.result _ c.operations.invariant.going (omega (arith, c.levels-levels.ensures, c.operations.invariant.limit)) c.in-Some.ensures.exact c.if-levels-eq0.false c.in-Some.ensures.shorter c.in_ok-push.ensures.ok;
      limit = c.in_ok-push.ensures.limit ∙ c.operations.invariant.limit;
      fits = fit_more c.args.limit _ (waits c.operations.operators) (Sign c.in-Some.sign c.in-Some.place) c.in_ok-push.ensures.ok c.operations.invariant.fits (omega (arith, c.levels-levels.ensures, c.operations.invariant.limit, c.if-levels-eq0.false));
      low = omega (arith, e, c.levels-levels.ensures, c.operations.invariant.limit, c.if-levels-eq0.false);
      shorter = omega (arith, c.in-Some.ensures.shorter, c.operations.invariant.shorter);
    }

pub returns-in_err-postfix-clause-exact : goal.returns-in_err-postfix-clause-exact
returns-in_err-postfix-clause-exact g c =
    let p = err_from_is_err_and c.from_residual-in_err-postfix.result c.from_residual-in_err-postfix.ensures.1 in
    rw (p.1, p.2) (operand_fails c.args.limit (waits c.operations.operators) c.operations.rest.now _ c.in_err-postfix.field-0.0 c.levels-levels.result c.operations.invariant.going (omega (arith, c.levels-levels.ensures, c.operations.invariant.limit)) c.in_default.ensures.exact c.in_err-postfix.ensures.exact)

pub returns-in-None-clause-exact : goal.returns-in-None-clause-exact
returns-in-None-clause-exact g c =
    gives_by _ c.ended.result (operand_ends c.args.limit (waits c.operations.operators) c.operations.rest.now _ c.in_ok-postfix.postfix c.in_ok-postfix.behind.now c.levels-levels.result _ _ c.operations.invariant.going (omega (arith, c.levels-levels.ensures, c.operations.invariant.limit)) c.in_default.ensures.exact c.in_ok-postfix.ensures.exact c.in-None.ensures.exact c.in_ok-whole-in-None.ensures.exact refl) c.ended.ensures.exact

pub returns-in-None-clause-low : goal.returns-in-None-clause-low
returns-in-None-clause-low g c = ended_low c.args.limit _ _ c.ended.result c.ended.ensures.exact (omega (arith, c.in_ok-whole-in-None.ensures.low, c.operations.invariant.limit))

pub returns-in_err-wait_behind-in-Some-operator-clause-exact : goal.returns-in_err-wait_behind-in-Some-operator-clause-exact
returns-in_err-wait_behind-in-Some-operator-clause-exact g c =
    let p = err_from_is_err_and c.from_residual-in_err-wait_behind-in-Some-operator.result c.from_residual-in_err-wait_behind-in-Some-operator.ensures.1 in
    rw (p.1, p.2) (operator_fails c.args.limit (waits c.operations.operators) c.operations.rest.now _ c.in_ok-postfix.postfix c.in_ok-postfix.behind.now c.in_err-wait_behind-in-Some-operator.field-0.0 c.levels-levels.result c.in-Some-operator.operator c.in-Some-operator.place c.in-Some-operator.behind.now c.operations.invariant.going (omega (arith, c.levels-levels.ensures, c.operations.invariant.limit)) c.in_default.ensures.exact c.in_ok-postfix.ensures.exact c.in-Some-operator.ensures.exact (rw c.operations.invariant.limit at c.in_err-wait_behind-in-Some-operator.ensures.exact))

pub operations-preserved : goal.operations-preserved
operations-preserved g c = record {
  going = operator_step c.args.limit (waits c.operations.operators) c.operations.rest.now _ c.in_ok-postfix.postfix c.in_ok-postfix.behind.now c.levels-levels.result c.in-Some-operator.operator c.in-Some-operator.place c.in-Some-operator.behind.now _ c.operations.invariant.going (omega (arith, c.levels-levels.ensures, c.operations.invariant.limit)) c.in_default.ensures.exact c.in_ok-postfix.ensures.exact c.in-Some-operator.ensures.exact (rw c.operations.invariant.limit at c.in_ok-wait_behind-in-Some-operator.ensures.exact) (omega (arith, c.in_ok-postfix.ensures.shorter, c.in-Some-operator.ensures.shorter));
  limit = c.in_ok-wait_behind-in-Some-operator.ensures.limit ∙ c.operations.invariant.limit;
  fits = rw c.operations.invariant.limit at c.in_ok-wait_behind-in-Some-operator.ensures.fits;
  low = rw c.operations.invariant.limit at c.in_ok-wait_behind-in-Some-operator.ensures.fewer;
  shorter = omega (arith, c.in_ok-postfix.ensures.shorter, c.in-Some-operator.ensures.shorter, c.operations.invariant.shorter);
}
