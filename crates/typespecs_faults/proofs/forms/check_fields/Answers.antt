use Rattle.std.proofs.Common.{[], ap, arith}
use Rattle.typespecs_rules.specs.TypeFaults.{declared_fields_faults}
use Rattle.typespecs_rules.specs.Earliest.{earliest}
use Rattle.typespecs_faults.specs.NameSets.{names_in}
use Rattle.typespecs_faults.proofs.FormLaws.{declared_fields_next, declared_fields_last}
use Rattle.typespecs_faults.proofs.forms.check_fields.Goals as goal

pub loop-field-init : goal.loop-field-init
loop-field-init c = λ d k. ap (λ ks. earliest c.args.first.now (declared_fields_faults d (names_in ks) c.args.fields.now)) c.new-before.ensures.empty

pub loop-field-preserved : goal.loop-field-preserved
loop-field-preserved c = λ d k.
    declared_fields_next d c.args.fields.now (earliest c.args.first.now (declared_fields_faults d [] c.args.fields.now)) c.loop-field.field-index c.field-item.result c.get-kind.result.now c.loop-field.before.keys c.insert.new.self.keys c.as_slice.result c.in_ok-is_new.is_new
    c.loop-field.first c.note_unless.new.first c.note_default.new.first c.check_field_type.new.first c.loop-field-test.true c.field-item.is c.get-kind.ensures c.as_slice.ensures c.in_ok-is_new.ensures.added c.in_ok-is_new.ensures.keys
    c.note_unless.ensures c.note_default.ensures (c.in_ok-check_field_type.ensures d k) (c.loop-field.invariant d k)

pub returns : goal.returns
returns c = λ d k. declared_fields_last d c.args.fields.now (earliest c.args.first.now (declared_fields_faults d [] c.args.fields.now)) c.loop-field.field-index c.loop-field.before.keys c.loop-field.first (omega arith) (c.loop-field.invariant d k)
