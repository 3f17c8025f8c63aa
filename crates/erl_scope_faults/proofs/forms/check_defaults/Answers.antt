use Rattle.std.proofs.Common.{ap}
use Rattle.name_table.specs.Table.{ids}
use Rattle.erl_tree.specs.declared.form.RecFieldKind.{RecFieldKind}
use Rattle.erl_scope_rules.specs.ScopeFaults.{default_faults}
use Rattle.erl_scope_faults.specs.PartFaults.{optional_expr_faults}
use Rattle.erl_scope_faults.proofs.Rows.{noted_next}
use Rattle.erl_scope_faults.proofs.Steps.{noted_same}
use Rattle.erl_scope_faults.proofs.forms.check_defaults.Goals as goal

pub loop-field-preserved : goal.loop-field-preserved
loop-field-preserved c =
    noted_next (default_faults (ids c.args.names.now.functions) c.args.names.now.records) c.args.fields.now c.args.first.now c.loop-field.field-index c.field-item.result c.loop-field.first c.check_default.new.first c.loop-field-test.true c.field-item.is
    (noted_same _ _ _ _ (ap (λ (k : RecFieldKind). optional_expr_faults (ids c.args.names.now.functions) c.args.names.now.records k.default) c.get.ensures) c.in_ok-check_default.ensures)
    c.loop-field.invariant
