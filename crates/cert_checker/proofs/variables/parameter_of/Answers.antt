use Rattle.std.proofs.Common.{◌≡◌, sym, ◌∙◌, ap, subst, length, arith}
use Rattle.cert_checker.proofs.Takes.{item-found}
use Rattle.cert_checker.proofs.BoundVariables.{NoneBinds, none-more, parameter-stands, no-parameter}
use Rattle.cert_checker.proofs.variables.parameter_of.Goals as goal

pub returns-then-binds : goal.returns-then-binds
returns-then-binds c =
    let found = item-found c.as_slice-pattern-items.result.now c.args.scope.now.patterns.now c.loop-at.at c.pattern-item.result c.as_slice-pattern-items.ensures c.loop-at-test.true c.pattern-item.is in
    parameter-stands c.args.scope.now c.args.name.now c.loop-at.at c.pattern-item.result c.loop-at.invariant found (sym c.binds.ensures ∙ c.if-binds.true)

pub loop-at-preserved : goal.loop-at-preserved
loop-at-preserved c =
    let found = item-found c.as_slice-pattern-items.result.now c.args.scope.now.patterns.now c.loop-at.at c.pattern-item.result c.as_slice-pattern-items.ensures c.loop-at-test.true c.pattern-item.is in
    none-more c.args.scope.now.patterns.now c.args.name.now c.loop-at.at c.pattern-item.result c.loop-at.invariant found (sym c.binds.ensures ∙ c.if-binds.false)

pub unreachable-requires : goal.unreachable-requires
unreachable-requires c =
    let full : c.loop-at.at ≡ length c.args.scope.now.patterns.now = let l = ap length c.as_slice-pattern-items.ensures in let x = c.loop-at-test.false in let y = c.loop-at.auto.at-end in omega arith in
    no-parameter c.args.scope.now c.args.name.now (subst (λ z. NoneBinds c.args.scope.now.patterns.now c.args.name.now z) full c.loop-at.invariant) c.requires.0 c.requires.1 c.requires.2
