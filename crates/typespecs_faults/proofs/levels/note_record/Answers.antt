use Rattle.std.proofs.Common.{◌∙◌, [], ap, is_some}
use Rattle.std.specs.Option.{option_copied}
use Rattle.erl_runs.specs.Records.{find_record}
use Rattle.typespecs_rules.specs.declared.fault.TypeFault.TheVariants.{NoSuchType}
use Rattle.typespecs_rules.specs.TypeFaults.{unless, fields_faults}
use Rattle.typespecs_rules.specs.Earliest.{earliest}
use Rattle.typespecs_faults.specs.Fields.{HasFieldsOf}
use Rattle.typespecs_faults.proofs.RecordLookups.{some-alike}
use Rattle.typespecs_faults.proofs.DeclaredRecords.{find-declared}
use Rattle.typespecs_faults.proofs.Rows.{on_ok, noted_two}
use Rattle.typespecs_faults.proofs.levels.note_record.Goals as goal

pub returns : goal.returns
returns c =
    on_ok c.note_fields.result _ _
    (λ h d k.
    let has : HasFieldsOf (option_copied c.find-declared.result) (find_record d.records c.args.name.now) = c.find-declared.ensures ∙ (k.records c.args.name.now ∙ find-declared d.records c.args.name.now) in
    noted_two c.args.first.now c.note_unless.new.first c.note_fields.new.first (unless (is_some (find_record d.records c.args.name.now)) NoSuchType c.args.place) (fields_faults (find_record d.records c.args.name.now) [] c.args.fields.now)
    (c.note_unless.ensures ∙ ap (λ b. earliest c.args.first.now (unless b NoSuchType c.args.place)) (c.is_some.ensures ∙ some-alike c.find-declared.result (find_record d.records c.args.name.now) has))
    (h (find_record d.records c.args.name.now) has))
    c.note_fields.ensures
