use Rattle.std.proofs.Common.{arith}
use Rattle.flat_tests.specs.Names.{IsRightForm}
use Rattle.flat_tests.proofs.ForEach.{left_first, left_next, unmet, met}
use Rattle.flat_tests.proofs.forms.are_right_forms.Goals as goal

pub loop-form-init : goal.loop-form-init
loop-form-init c = left_first (IsRightForm) c.args.forms.now

pub returns-then-not-is_right_form : goal.returns-then-not-is_right_form
returns-then-not-is_right_form c = unmet (IsRightForm) c.args.forms.now _ _ c.is_right_form.result c.loop-form-test.true c.form-item.is c.is_right_form.ensures c.if-not-is_right_form.true

pub loop-form-preserved : goal.loop-form-preserved
loop-form-preserved c = left_next (IsRightForm) c.args.forms.now _ _ c.loop-form-test.true c.form-item.is (c.is_right_form.ensures.0 c.if-not-is_right_form.false) c.loop-form.invariant

pub returns : goal.returns
returns c = met (IsRightForm) c.args.forms.now c.loop-form.form-index (omega arith) c.loop-form.invariant
