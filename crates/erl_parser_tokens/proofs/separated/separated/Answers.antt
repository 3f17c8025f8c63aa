use Rattle.std.proofs.Common.{arith}
use Rattle.std.proofs.lemmas.Result.{err_from_is_err_and}
use Rattle.erl_parser_tokens.specs.Views.{several}
use Rattle.erl_parser_tokens.proofs.LoopLaws.{going_step, going_ends, going_fails}
use Rattle.erl_parser_tokens.proofs.separated.separated.Goals as goal

pub returns-in_err-item-clause-exact : goal.returns-in_err-item-clause-exact
returns-in_err-item-clause-exact g c = λ reads h.
    let p = err_from_is_err_and c.from_residual.result c.from_residual.ensures.1 in
    rw (p.1, p.2) (going_fails c.args.separator.now reads c.in_err-item.field-0.0 (several c.parts.parts) c.parts.rest.now _ (c.parts.invariant.going reads h) (h _ _ c.in_err-item.ensures))

pub returns-in-None-clause-exact : goal.returns-in-None-clause-exact
returns-in-None-clause-exact g c = λ reads h.
    going_ends c.args.separator.now reads (several c.parts.parts) c.parts.rest.now _ (several c.push.new.self) c.in_ok-item.item c.in_ok-item.behind.now (c.parts.invariant.going reads h) (h _ _ c.in_ok-item.ensures) c.in-None.ensures.exact c.in_ok-push.ensures.exact

pub parts-preserved : goal.parts-preserved
parts-preserved g c =
    let less = c.requires.shorter _ _ c.in_ok-item.ensures in
    record {
      going = λ reads h. going_step c.args.separator.now reads (several c.parts.parts) c.parts.rest.now _ (several c.push.new.self) (several c.mark-in-Some.new.self) c.in_ok-item.item c.in_ok-item.behind.now c.in-Some.place c.in-Some.behind.now (c.parts.invariant.going reads h) (h _ _ c.in_ok-item.ensures) c.in-Some.ensures.exact (omega (arith, less, c.in-Some.ensures.shorter)) c.in_ok-push.ensures.exact c.in_ok-mark-in-Some.ensures.exact;
      low = λ most h. let low = h _ _ c.in_ok-item.ensures in omega (arith, c.in_ok-push.ensures.depth, c.in_ok-mark-in-Some.ensures.depth, c.parts.invariant.low most h, low);
      shorter = omega (arith, less, c.in-Some.ensures.shorter, c.parts.invariant.shorter);
    }
