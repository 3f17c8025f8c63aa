use Rattle.std.proofs.Common.{◌∙◌, [], ap, arith}
use Rattle.typespecs_rules.specs.RegularUse.{field_types}
use Rattle.typespecs_rules.specs.TypeParts.{from_each, types_within}
use Rattle.typespecs_names.specs.Seen.{seen}
use Rattle.typespecs_cycles.proofs.FormLaws.{record-types, with-no-params}
use Rattle.typespecs_cycles.proofs.Gathering.{gathered-end}
use Rattle.typespecs_cycles.proofs.parts.parts_of_record.Goals as goal

pub returns : goal.returns
returns c = with-no-params
    (gathered-end (λ f. from_each types_within (field_types f.kind.ty)) c.as_slice-field-items.result.now [] c.loop-field.field-index (seen c.loop-field.types.items) (omega arith) c.loop-field.invariant
    ∙ (ap (from_each (λ f. from_each types_within (field_types f.kind.ty))) c.as_slice-field-items.ensures ∙ record-types c.args.declaration.now))
