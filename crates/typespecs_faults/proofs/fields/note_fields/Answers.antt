use Rattle.std.proofs.Common.{ap, arith}
use Rattle.typespecs_rules.specs.TypeFaults.{fields_faults}
use Rattle.typespecs_rules.specs.Earliest.{earliest}
use Rattle.typespecs_faults.specs.NameSets.{names_in}
use Rattle.typespecs_faults.proofs.FieldLaws.{fields_next, fields_last}
use Rattle.typespecs_faults.proofs.fields.note_fields.Goals as goal

pub loop-field-init : goal.loop-field-init
loop-field-init c = λ d h. ap (λ ks. earliest c.args.first.now (fields_faults d (names_in ks) c.args.fields.now)) c.new-before.ensures.empty

pub loop-field-preserved : goal.loop-field-preserved
loop-field-preserved c = λ d h.
    fields_next d c.args.fields.now _ c.loop-field.before.keys c.insert.new.self.keys c.loop-field.field-index c.field-item.result c.get.result.now c.as_slice.result c.in_ok-is_new.is_new c.loop-field.first c.note_field.new.first
    c.loop-field-test.true c.field-item.is c.get.ensures c.as_slice.ensures c.in_ok-is_new.ensures.added c.in_ok-is_new.ensures.keys (c.note_field.ensures d h) (c.loop-field.invariant d h)

pub returns : goal.returns
returns c = λ d h. fields_last d c.args.fields.now _ c.loop-field.before.keys c.loop-field.field-index c.loop-field.first (omega arith) (c.loop-field.invariant d h)
