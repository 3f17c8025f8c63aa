use Rattle.std.proofs.Common.{◌∙◌, not, ap, refl}
use Rattle.std.specs.List.{list_any}
use Rattle.erl_tree.specs.declared.form.SpecKind.{SpecKind}
use Rattle.erl_tree.specs.Functions.{FunctionId, of_function, spec_clauses_arity}
use Rattle.erl_runs.specs.Names.{same_id}
use Rattle.erl_runs.specs.Specs.{specified_id}
use Rattle.typespecs_rules.specs.declared.fault.TypeFault.TheVariants.{Repeated}
use Rattle.typespecs_rules.specs.TypeFaults.{unless, clauses_faults}
use Rattle.typespecs_rules.specs.Earliest.{earliest}
use Rattle.typespecs_faults.proofs.FormLaws.{spec-added}
use Rattle.typespecs_faults.proofs.Insertions.{is_new}
use Rattle.typespecs_faults.proofs.Rows.{on_ok, noted_two}
use Rattle.typespecs_faults.proofs.forms.check_spec_form.Goals as goal

pub returns-clause-noted : goal.returns-clause-noted
returns-clause-noted c =
    let named = ap (of_function c.get-kind.result.now.name) c.arity.ensures ∙ ap (λ (x : SpecKind). of_function x.name (spec_clauses_arity x.clauses)) c.get-kind.ensures in
    on_ok c.check_clauses.result _ _
    (λ h b ib d k. noted_two c.args.first.now c.note_unless.new.first c.check_clauses.new.first (unless (not (list_any (same_id (specified_id c.args.spec.now)) b.specs)) Repeated c.args.spec.now.place) (clauses_faults d c.args.spec.now.kind.clauses)
    (c.note_unless.ensures ∙ ap (λ t. earliest c.args.first.now (unless t Repeated c.args.spec.now.place)) (is_new c.in_ok-is_new.is_new c.args.before.now.specs (of_function c.get-kind.result.now.name c.arity.result) 0 c.insert.new.self c.in_ok-is_new.ensures.inserted ∙ ap not (ib.specs (of_function c.get-kind.result.now.name c.arity.result) ∙ ap (λ (f : FunctionId). list_any (same_id f) b.specs) named)))
    (h d k ∙ ap (λ cs. earliest c.note_unless.new.first (clauses_faults d cs)) (c.as_slice.ensures ∙ ap (λ (x : SpecKind). x.clauses) c.get-kind.ensures)))
    c.check_clauses.ensures

pub returns-clause-added : goal.returns-clause-added
returns-clause-added c =
    on_ok c.check_clauses.result _ _
    (λ h b ib. spec-added c.in_ok-is_new.is_new c.args.before.now _ c.args.spec.now (of_function c.get-kind.result.now.name c.arity.result) 0 b (ap (of_function c.get-kind.result.now.name) c.arity.ensures ∙ ap (λ (x : SpecKind). of_function x.name (spec_clauses_arity x.clauses)) c.get-kind.ensures) c.in_ok-is_new.ensures.inserted refl refl ib)
    c.check_clauses.ensures
