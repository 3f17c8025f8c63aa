use Rattle.name_table.specs.Table.{ids}
use Rattle.erl_scope_faults.proofs.Alike.{forms_next}
use Rattle.erl_scope_faults.proofs.forms.check_forms.Goals as goal

pub loop-form-preserved : goal.loop-form-preserved
loop-form-preserved c =
    forms_next (ids c.args.names.now.functions) c.args.names.now.records (ids c.args.specified.now) c.args.forms.now _ (ids c.loop-form.before) (ids c.check_form.new.before) c.loop-form.form-index c.form-item.result c.loop-form.first c.check_form.new.first
    c.loop-form-test.true c.form-item.is c.in_ok-check_form.ensures.faults c.in_ok-check_form.ensures.added c.loop-form.invariant
