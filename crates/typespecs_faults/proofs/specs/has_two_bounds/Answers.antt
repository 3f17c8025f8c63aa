use Rattle.std.proofs.Common.{arith}
use Rattle.typespecs_faults.proofs.SpecLaws.{repeated_init, repeated_here, repeated_next, repeated_last}
use Rattle.typespecs_faults.proofs.specs.has_two_bounds.Goals as goal

pub loop-bound-init : goal.loop-bound-init
loop-bound-init c = repeated_init c.args.bounds.now c.new-before.result.keys c.new-before.ensures.empty

pub loop-bound-preserved : goal.loop-bound-preserved
loop-bound-preserved c =
    repeated_next c.args.bounds.now c.loop-bound.bound-index c.bound-item.result c.loop-bound.before.keys c.as_slice.result c.in_ok-is_new.is_new c.loop-bound-test.true c.bound-item.is c.as_slice.ensures c.in_ok-is_new.ensures.added c.loop-bound.invariant
    c.insert.new.self.keys c.in_ok-is_new.ensures.keys c.if-not-is_new.false

pub returns-then-not-is_new : goal.returns-then-not-is_new
returns-then-not-is_new c =
    repeated_here c.args.bounds.now c.loop-bound.bound-index c.bound-item.result c.loop-bound.before.keys c.as_slice.result c.in_ok-is_new.is_new c.loop-bound-test.true c.bound-item.is c.as_slice.ensures c.in_ok-is_new.ensures.added c.loop-bound.invariant
    c.if-not-is_new.true

pub returns : goal.returns
returns c = repeated_last c.args.bounds.now c.loop-bound.bound-index c.loop-bound.before.keys (omega arith) c.loop-bound.invariant
