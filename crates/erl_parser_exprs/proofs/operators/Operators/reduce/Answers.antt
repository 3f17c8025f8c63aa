use Rattle.std.proofs.Common.{arith, sym, ap, ◌∙◌, length}
use Rattle.erl_parser_exprs.specs.Waiting.{operand_seen}
use Rattle.erl_parser_exprs.proofs.Waits.{fit_last, reduced_more, reduced_ends}
use Rattle.erl_parser_exprs.proofs.operators.Operators.reduce.Goals as goal

pub join-requires-clause-left : goal.join-requires-clause-left
join-requires-clause-left c = let f = fit_last _ _ _ c.in-Some.waiting c.in-Some.ensures.cases.0 c.reducing.invariant.fits in omega (arith, f.0, c.requires.bound)

pub reducing-preserved : goal.reducing-preserved
reducing-preserved c =
    let f = fit_last _ _ _ c.in-Some.waiting c.in-Some.ensures.cases.0 c.reducing.invariant.fits in
    let l = ap length c.in-Some.ensures.cases.0 in
    record {
      going = rw (c.in_ok-expr.ensures.exact, c.strength-binds.ensures) (sym (reduced_more _ _ _ c.in-Some.waiting (operand_seen c.reducing.operand) c.in-Some.ensures.cases.0 c.in-Some.ensures.cases.1) ∙ c.reducing.invariant.going);
      fits = f.1;
      low = omega (arith, f.0, l, c.in_ok-expr.ensures.depth, c.reducing.invariant.low);
      limit = c.pop_tighter.ensures.limit ∙ c.reducing.invariant.limit;
      fewer = omega (arith, l, c.reducing.invariant.fewer);
    }

pub returns-clause-exact : goal.returns-clause-exact
returns-clause-exact c = rw (c.in_default.ensures.cases.0) (sym (reduced_ends _ _ (operand_seen c.reducing.operand) c.in_default.ensures.cases.1) ∙ c.reducing.invariant.going)
