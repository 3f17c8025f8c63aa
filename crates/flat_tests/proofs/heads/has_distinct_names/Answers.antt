use Rattle.std.proofs.Common.{arith, subst, ◌+◌}
use Rattle.std.proofs.lemmas.List.{take_rest}
use Rattle.std.specs.Prelude.{◌↔◌, IsTrue}
use Rattle.flat_tests.specs.Names.{IsFresh}
use Rattle.flat_tests.proofs.Variables.{before_first, before_next, not_fresh, all_fresh}
use Rattle.flat_tests.proofs.heads.has_distinct_names.Goals as goal

pub loop-i-init : goal.loop-i-init
loop-i-init c = before_first c.args.patterns.now

pub returns-then-not-is_fresh : goal.returns-then-not-is_fresh
returns-then-not-is_fresh c =
    not_fresh c.args.patterns.now _ _ c.is_fresh.result c.loop-i-test.true c.index-patterns-i.is
    (subst (λ others. IsTrue c.is_fresh.result ↔ IsFresh c.index-patterns-i.result others) (take_rest c.args.patterns.now (c.loop-i.i + 1)) c.is_fresh.ensures) c.if-not-is_fresh.true

pub loop-i-preserved : goal.loop-i-preserved
loop-i-preserved c =
    before_next c.args.patterns.now _ _ c.loop-i-test.true c.index-patterns-i.is
    (subst (IsFresh c.index-patterns-i.result) (take_rest c.args.patterns.now (c.loop-i.i + 1)) (c.is_fresh.ensures.0 c.if-not-is_fresh.false)) c.loop-i.invariant

pub returns : goal.returns
returns c = all_fresh c.args.patterns.now c.loop-i.i (omega arith) c.loop-i.invariant
