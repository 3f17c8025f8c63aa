use Rattle.std.proofs.Common.{◌∙◌, [], not, ap, refl}
use Rattle.erl_tree.specs.declared.form.RecDefKind.{RecDefKind}
use Rattle.erl_tree.specs.Functions.{of_function}
use Rattle.typespecs_rules.specs.declared.fault.TypeFault.TheVariants.{Repeated}
use Rattle.typespecs_rules.specs.TypeFaults.{unless, stands_among, declared_fields_faults}
use Rattle.typespecs_rules.specs.Earliest.{earliest}
use Rattle.typespecs_faults.proofs.FormLaws.{record-added}
use Rattle.typespecs_faults.proofs.Insertions.{is_new}
use Rattle.typespecs_faults.proofs.Rows.{on_ok, noted_two}
use Rattle.typespecs_faults.proofs.forms.check_record_form.Goals as goal

pub returns-clause-noted : goal.returns-clause-noted
returns-clause-noted c =
    on_ok c.check_fields.result _ _
    (λ h b ib d k. noted_two c.args.first.now c.note_unless.new.first c.check_fields.new.first (unless (not (stands_among c.args.declaration.now.kind.name b.records)) Repeated c.args.declaration.now.place) (declared_fields_faults d [] c.args.declaration.now.kind.fields)
    (c.note_unless.ensures ∙ ap (λ t. earliest c.args.first.now (unless t Repeated c.args.declaration.now.place)) (is_new c.in_ok-is_new.is_new c.args.before.now.records (of_function c.get-kind.result.now.name 0) 0 c.insert.new.self c.in_ok-is_new.ensures.inserted ∙ ap not (ib.records c.get-kind.result.now.name ∙ ap (λ (x : RecDefKind). stands_among x.name b.records) c.get-kind.ensures)))
    (h d k ∙ ap (λ fs. earliest c.note_unless.new.first (declared_fields_faults d [] fs)) (c.as_slice.ensures ∙ ap (λ (x : RecDefKind). x.fields) c.get-kind.ensures)))
    c.check_fields.ensures

pub returns-clause-added : goal.returns-clause-added
returns-clause-added c =
    on_ok c.check_fields.result _ _
    (λ h b ib. record-added c.in_ok-is_new.is_new c.args.before.now _ c.args.declaration.now (of_function c.get-kind.result.now.name 0) 0 b (ap (λ (x : RecDefKind). of_function x.name 0) c.get-kind.ensures) c.in_ok-is_new.ensures.inserted refl refl ib)
    c.check_fields.ensures
