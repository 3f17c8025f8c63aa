use Rattle.std.proofs.Common.{arith}
use Rattle.flat_tests.proofs.Variables.{later_first, later_next, bound_here, bound_nowhere}
use Rattle.flat_tests.proofs.heads.is_bound.Goals as goal

pub loop-pattern-init : goal.loop-pattern-init
loop-pattern-init c = later_first c.args.name.now c.args.patterns.now

pub returns-then-binds : goal.returns-then-binds
returns-then-binds c = bound_here c.args.name.now c.args.patterns.now _ _ c.binds.result c.loop-pattern-test.true c.pattern-item.is c.binds.ensures c.if-binds.true

pub loop-pattern-preserved : goal.loop-pattern-preserved
loop-pattern-preserved c = later_next c.args.name.now c.args.patterns.now _ _ c.binds.result c.loop-pattern-test.true c.pattern-item.is c.binds.ensures c.if-binds.false c.loop-pattern.invariant

pub returns : goal.returns
returns c = bound_nowhere c.args.name.now c.args.patterns.now c.loop-pattern.pattern-index (omega arith) c.loop-pattern.invariant
