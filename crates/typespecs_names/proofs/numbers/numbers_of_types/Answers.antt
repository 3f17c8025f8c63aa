use Rattle.std.proofs.Common.{[], arith}
use Rattle.typespecs_names.specs.Numbers.{type_ids}
use Rattle.typespecs_names.proofs.Counted.{added_next, added_last}
use Rattle.typespecs_names.proofs.numbers.numbers_of_types.Goals as goal

pub loop-form-init : goal.loop-form-init
loop-form-init c = λ m new h. h

pub loop-form-preserved : goal.loop-form-preserved
loop-form-preserved c =
    added_next type_ids c.args.forms.now _ _ c.loop-form.form-index c.form-item.result c.loop-form.number _ c.loop-form.table c.add_type.new.table c.loop-form-test.true c.form-item.is c.in_ok-number.ensures c.loop-form.invariant

pub returns : goal.returns
returns c = added_last type_ids c.args.forms.now _ _ c.loop-form.form-index c.loop-form.number c.loop-form.table [] (omega arith) c.new-table.ensures c.loop-form.invariant
