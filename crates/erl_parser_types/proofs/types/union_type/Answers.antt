use Rattle.std.proofs.Common.{◌-◌, Ok, Err, arith}
use Rattle.std.proofs.lemmas.Result.{err_from_is_err_and}
use Rattle.erl_parser_types.proofs.TypeLevels.{fault_fails, type_fails, type_outside, type_too_deep, right_fails, type_ends, type_union}
use Rattle.erl_parser_types.proofs.types.union_type.Goals as goal

pub returns-in_err-left-clause-exact : goal.returns-in_err-left-clause-exact
returns-in_err-left-clause-exact g c =
    let p = err_from_is_err_and c.from_residual.result c.from_residual.ensures.1 in
    rw (p.1, p.2) (type_fails c.args.limit c.args.tokens.now c.in_err-left.field-0.0 c.in_err-left.ensures.exact)

pub returns-in-Some-clause-exact : goal.returns-in-Some-clause-exact
returns-in-Some-clause-exact g c =
    fault_fails _ c.outside.result c.outside.ensures (type_outside c.args.limit c.args.tokens.now _ _ c.in_ok-left.ensures.some c.in_ok-left.ensures.exact c.in-Some.place c.in-Some.form.now c.in-Some.ensures.exact)

pub returns-then-left-below-clause-exact : goal.returns-then-left-below-clause-exact
returns-then-left-below-clause-exact g c =
    type_too_deep c.args.limit c.args.tokens.now c.in_ok-left.left c.in_ok-left.rest.now c.in_ok-left.ensures.some c.in_ok-left.ensures.exact c.in-Some-mark.bar c.in-Some-mark.behind.now c.in_default.ensures.exact c.in-Some-mark.ensures.exact (omega (arith, c.if-left-below.true))

pub returns-in_err-right-in-Some-mark-clause-exact : goal.returns-in_err-right-in-Some-mark-clause-exact
returns-in_err-right-in-Some-mark-clause-exact g c =
    let p = err_from_is_err_and c.from_residual-in_err-right-in-Some-mark.result c.from_residual-in_err-right-in-Some-mark.ensures.1 in
    rw (p.1, p.2) (right_fails c.args.limit c.args.tokens.now c.in_ok-left.left c.in_ok-left.rest.now c.in_ok-left.ensures.some c.in_ok-left.ensures.exact c.in-Some-mark.bar c.in-Some-mark.behind.now c.in_err-right-in-Some-mark.field-0.0 c.in_default.ensures.exact c.in-Some-mark.ensures.exact (omega (arith, c.if-left-below.false)) (c.requires.reads.gives c.in-Some-mark.behind (c.args.limit - 1) (Err c.in_err-right-in-Some-mark.field-0.0) c.in_err-right-in-Some-mark.ensures))

pub returns-in-None-clause-exact : goal.returns-in-None-clause-exact
returns-in-None-clause-exact g c =
    type_ends c.args.limit c.args.tokens.now c.in_ok-left.left c.in_ok-left.rest.now c.in_ok-left.ensures.some c.in_ok-left.ensures.exact c.in_default.ensures.exact c.in-None.ensures.exact

pub returns-in_ok-union-in-Some-mark-clause-exact : goal.returns-in_ok-union-in-Some-mark-clause-exact
returns-in_ok-union-in-Some-mark-clause-exact g c =
    rw c.in_ok-union-in-Some-mark.ensures.exact (type_union c.args.limit c.args.tokens.now c.in_ok-left.left c.in_ok-left.rest.now c.in_ok-left.ensures.some c.in_ok-left.ensures.exact c.in-Some-mark.bar c.in-Some-mark.behind.now c.in_ok-right-in-Some-mark.right c.in_ok-right-in-Some-mark.behind.now c.in_default.ensures.exact c.in-Some-mark.ensures.exact (omega (arith, c.if-left-below.false)) (c.requires.reads.gives c.in-Some-mark.behind (c.args.limit - 1) (Ok (c.in_ok-right-in-Some-mark.right, c.in_ok-right-in-Some-mark.behind)) c.in_ok-right-in-Some-mark.ensures))
