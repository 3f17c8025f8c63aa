use Rattle.std.proofs.Common.{arith}
use Rattle.typespecs_rules.specs.TypeFaults.{type_faults}
use Rattle.typespecs_faults.specs.NameSets.{has_name}
use Rattle.typespecs_faults.proofs.Rows.{noted_next, noted_last}
use Rattle.typespecs_faults.proofs.specs.check_types.Goals as goal

pub loop-one-preserved : goal.loop-one-preserved
loop-one-preserved c = λ d k.
    noted_next (type_faults d (has_name c.args.allowed.now)) c.args.types.now c.args.first.now c.loop-one.one-index c.one-item.result c.loop-one.first c.check_type.new.first c.loop-one-test.true c.one-item.is (c.in_ok-check_type.ensures d k) (c.loop-one.invariant d k)

pub returns : goal.returns
returns c = λ d k. noted_last (type_faults d (has_name c.args.allowed.now)) c.args.types.now c.args.first.now c.loop-one.one-index c.loop-one.first (omega arith) (c.loop-one.invariant d k)
