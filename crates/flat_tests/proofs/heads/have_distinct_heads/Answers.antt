use Rattle.std.proofs.Common.{arith}
use Rattle.flat_modules.specs.FlatModules.{HasDistinctHead}
use Rattle.flat_tests.proofs.ForEach.{left_first, left_next, unmet, met}
use Rattle.flat_tests.proofs.heads.have_distinct_heads.Goals as goal

pub loop-clause-init : goal.loop-clause-init
loop-clause-init c = left_first (HasDistinctHead) c.args.clauses.now

pub returns-then-not-has_distinct_head : goal.returns-then-not-has_distinct_head
returns-then-not-has_distinct_head c = unmet (HasDistinctHead) c.args.clauses.now _ _ c.has_distinct_head.result c.loop-clause-test.true c.clause-item.is c.has_distinct_head.ensures c.if-not-has_distinct_head.true

pub loop-clause-preserved : goal.loop-clause-preserved
loop-clause-preserved c = left_next (HasDistinctHead) c.args.clauses.now _ _ c.loop-clause-test.true c.clause-item.is (c.has_distinct_head.ensures.0 c.if-not-has_distinct_head.false) c.loop-clause.invariant

pub returns : goal.returns
returns c = met (HasDistinctHead) c.args.clauses.now c.loop-clause.clause-index (omega arith) c.loop-clause.invariant
