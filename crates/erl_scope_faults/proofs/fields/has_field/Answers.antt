use Rattle.erl_scope_faults.proofs.FieldLaws.{field_here, field_later}
use Rattle.erl_scope_faults.proofs.fields.has_field.Goals as goal

pub returns-then-eq : goal.returns-then-eq
returns-then-eq c =
    field_here c.as_slice-field-items.result.now c.loop-field.field-index c.field-item.result c.loop-field-test.true c.field-item.is c.get.result.now c.get.ensures c.as_slice.result.now c.as_slice-in-loop-field.result.now c.args.name.now
    c.as_slice.ensures c.as_slice-in-loop-field.ensures c.eq.result c.eq.ensures _ c.loop-field.invariant c.if-eq.true

pub loop-field-preserved : goal.loop-field-preserved
loop-field-preserved c =
    field_later c.as_slice-field-items.result.now c.loop-field.field-index c.field-item.result c.loop-field-test.true c.field-item.is c.get.result.now c.get.ensures c.as_slice.result.now c.as_slice-in-loop-field.result.now c.args.name.now
    c.as_slice.ensures c.as_slice-in-loop-field.ensures c.eq.result c.eq.ensures _ c.loop-field.invariant c.if-eq.false
