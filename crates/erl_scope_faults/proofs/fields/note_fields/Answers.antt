use Rattle.std.proofs.Common.{ap, arith}
use Rattle.std.specs.Option.{option_copied}
use Rattle.erl_scope_rules.specs.ScopeFaults.{fields_faults}
use Rattle.erl_scope_rules.specs.Earliest.{earliest}
use Rattle.erl_scope_faults.proofs.FieldLaws.{seen_names, fields_next, fields_last}
use Rattle.erl_scope_faults.proofs.fields.note_fields.Goals as goal

pub loop-field-init : goal.loop-field-init
loop-field-init g c = ap (λ ks. earliest c.args.first.now (fields_faults (option_copied c.args.declaration) (seen_names ks) c.args.fields.now)) c.new-before.ensures.empty

pub loop-field-preserved : goal.loop-field-preserved
loop-field-preserved g c =
    fields_next (option_copied c.args.declaration) c.args.fields.now _ c.loop-field.before.keys c.insert.new.self.keys c.loop-field.field-index c.field-item.result c.get.result.now c.as_slice.result c.in_ok-is_new.is_new c.loop-field.first c.note_field.new.first
    c.loop-field-test.true c.field-item.is c.get.ensures c.as_slice.ensures c.in_ok-is_new.ensures.added c.in_ok-is_new.ensures.keys c.note_field.ensures c.loop-field.invariant

pub returns : goal.returns
returns g c = fields_last (option_copied c.args.declaration) c.args.fields.now _ c.loop-field.before.keys c.loop-field.field-index c.loop-field.first (omega arith) c.loop-field.invariant
