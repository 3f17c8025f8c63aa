use Rattle.std.proofs.Common.{[], arith}
use Rattle.typespecs_names.specs.Numbers.{spec_ids}
use Rattle.typespecs_names.proofs.Counted.{added_next, added_last}
use Rattle.typespecs_names.proofs.numbers.numbers_of_specs.Goals as goal

pub loop-record-init : goal.loop-record-init
loop-record-init c = λ m new h. h

pub loop-record-preserved : goal.loop-record-preserved
loop-record-preserved c =
    added_next spec_ids c.args.records.now _ _ c.loop-record.record-index c.record-item.result c.loop-record.number _ c.loop-record.table c.add.new.table c.loop-record-test.true c.record-item.is c.in_ok-number.ensures c.loop-record.invariant

pub returns : goal.returns
returns c = added_last spec_ids c.args.records.now _ _ c.loop-record.record-index c.loop-record.number c.loop-record.table [] (omega arith) c.new-table.ensures c.loop-record.invariant
