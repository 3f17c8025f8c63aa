use Rattle.std.proofs.Common.{arith, ◌∙◌, ap, sym, length}
use Rattle.std.specs.Prelude.{nat_le}
use Rattle.std.proofs.lemmas.Result.{err_from_is_err_and}
use Rattle.erl_parser_tokens.specs.Views.{several}
use Rattle.erl_parser_tokens.proofs.ParameterLoops.{parameters_begin, parameters_step, parameters_full, parameters_end, parameters_open, parameters_fail, fault_fails}
use Rattle.erl_parser_tokens.proofs.parameters.one_and_more.Goals as goal

pub parameters-init : goal.parameters-init
parameters-init g c = record {
  going = λ reads h. parameters_begin reads _ c.args.tokens.now c.new-parts.ensures.exact;
  low = λ most h. omega (arith, c.new-parts.ensures.depth);
  shorter = omega arith;
}

pub returns-in_err-parameter-clause-exact : goal.returns-in_err-parameter-clause-exact
returns-in_err-parameter-clause-exact g c = λ reads h.
    let p = err_from_is_err_and c.from_residual.result c.from_residual.ensures.1 in
    rw (p.1, p.2) (parameters_fail reads c.in_err-parameter.field-0.0 (several c.parameters.parts) c.parameters.rest.now _ (c.parameters.invariant.going reads h) (h _ _ c.in_err-parameter.ensures))

pub returns-in_err-close-in-None-clause-exact : goal.returns-in_err-close-in-None-clause-exact
returns-in_err-close-in-None-clause-exact g c = λ reads h.
    let p = err_from_is_err_and c.from_residual-in_err-close-in-None.result c.from_residual-in_err-close-in-None.ensures.1 in
    rw (p.1, p.2) (parameters_open reads c.in_err-close-in-None.field-0.0 (several c.parameters.parts) c.parameters.rest.now _ c.in_ok-parameter.parameter c.in_ok-parameter.behind.now (c.parameters.invariant.going reads h) (h _ _ c.in_ok-parameter.ensures) c.in-None.ensures.exact c.in_err-close-in-None.ensures.exact)

pub returns-in-None-clause-exact : goal.returns-in-None-clause-exact
returns-in-None-clause-exact g c = λ reads h.
    parameters_end reads (several c.parameters.parts) c.parameters.rest.now _ (several c.push.new.self) (several c.mark-in-None.new.self) c.in_ok-parameter.parameter c.in_ok-parameter.behind.now c.in_ok-close-in-None.close c.in_ok-close-in-None.behind.now (c.parameters.invariant.going reads h) (h _ _ c.in_ok-parameter.ensures) c.in-None.ensures.exact c.in_ok-close-in-None.ensures.exact c.in_ok-push.ensures.exact c.in_ok-mark-in-None.ensures.exact

pub returns-then-is_full-clause-exact : goal.returns-then-is_full-clause-exact
returns-then-is_full-clause-exact g c = λ reads h.
    fault_fails _ c.too_many.result (parameters_full reads (several c.parameters.parts) c.parameters.rest.now _ (several c.push.new.self) c.in_ok-parameter.parameter c.in_ok-parameter.behind.now c.in-Some.comma c.in-Some.behind.now (c.parameters.invariant.going reads h) (h _ _ c.in_ok-parameter.ensures) c.in-Some.ensures.exact c.in_ok-push.ensures.exact (ap (λ xs. nat_le 255 (length xs)) (sym c.as_slice.ensures) ∙ (sym c.is_full.ensures ∙ c.if-is_full.true))) c.too_many.ensures

pub parameters-preserved : goal.parameters-preserved
parameters-preserved g c =
    let less = c.requires.shorter _ _ c.in_ok-parameter.ensures in
    record {
      going = λ reads h. parameters_step reads (several c.parameters.parts) c.parameters.rest.now _ (several c.push.new.self) (several c.mark-in-Some.new.self) c.in_ok-parameter.parameter c.in_ok-parameter.behind.now c.in-Some.comma c.in-Some.behind.now (c.parameters.invariant.going reads h) (h _ _ c.in_ok-parameter.ensures) c.in-Some.ensures.exact (omega (arith, less, c.in-Some.ensures.shorter)) c.in_ok-push.ensures.exact (ap (λ xs. nat_le 255 (length xs)) (sym c.as_slice.ensures) ∙ (sym c.is_full.ensures ∙ c.if-is_full.false)) c.in_ok-mark-in-Some.ensures.exact;
      low = λ most h. let low = h _ _ c.in_ok-parameter.ensures in omega (arith, c.in_ok-push.ensures.depth, c.in_ok-mark-in-Some.ensures.depth, c.parameters.invariant.low most h, low);
      shorter = omega (arith, less, c.in-Some.ensures.shorter, c.parameters.invariant.shorter);
    }
