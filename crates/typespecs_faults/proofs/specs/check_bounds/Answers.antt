use Rattle.std.proofs.Common.{arith}
use Rattle.typespecs_faults.specs.NameSets.{has_name}
use Rattle.typespecs_faults.specs.Specs.{bound_faults}
use Rattle.typespecs_faults.proofs.Rows.{noted_next, noted_last}
use Rattle.typespecs_faults.proofs.specs.check_bounds.Goals as goal

pub loop-bound-preserved : goal.loop-bound-preserved
loop-bound-preserved c = λ d k.
    noted_next (bound_faults d (has_name c.args.allowed.now)) c.args.bounds.now c.args.first.now c.loop-bound.bound-index c.bound-item.result c.loop-bound.first c.check_type.new.first c.loop-bound-test.true c.bound-item.is (c.in_ok-check_type.ensures d k) (c.loop-bound.invariant d k)

pub returns : goal.returns
returns c = λ d k. noted_last (bound_faults d (has_name c.args.allowed.now)) c.args.bounds.now c.args.first.now c.loop-bound.bound-index c.loop-bound.first (omega arith) (c.loop-bound.invariant d k)
