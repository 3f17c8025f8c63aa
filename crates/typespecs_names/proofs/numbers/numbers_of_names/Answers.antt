use Rattle.std.proofs.Common.{[], arith}
use Rattle.typespecs_names.specs.Numbers.{name_ids}
use Rattle.typespecs_names.proofs.Counted.{added_next, added_last}
use Rattle.typespecs_names.proofs.numbers.numbers_of_names.Goals as goal

pub loop-name-init : goal.loop-name-init
loop-name-init c = λ m new h. h

pub loop-name-preserved : goal.loop-name-preserved
loop-name-preserved c =
    added_next name_ids c.args.names.now _ _ c.loop-name.name-index c.name-item.result c.loop-name.number _ c.loop-name.table c.add.new.table c.loop-name-test.true c.name-item.is c.in_ok-number.ensures c.loop-name.invariant

pub returns : goal.returns
returns c = added_last name_ids c.args.names.now _ _ c.loop-name.name-index c.loop-name.number c.loop-name.table [] (omega arith) c.new-table.ensures c.loop-name.invariant
