use Rattle.std.proofs.Common.{◌∙◌, ap, sym, subst}
use Rattle.erl_tree.specs.declared.form.TreeForm.{TreeForm}
use Rattle.typespecs_rules.specs.TypeFaults.{Behind, behind, form_faults}
use Rattle.typespecs_rules.specs.Earliest.{earliest}
use Rattle.typespecs_faults.specs.Behind.{IsBehind}
use Rattle.typespecs_faults.proofs.FormLaws.{other-behind, other-faults}
use Rattle.typespecs_faults.proofs.Rows.{on_ok}
use Rattle.typespecs_faults.proofs.forms.check_form.Goals as goal

pub returns-in-TypeDef-clause-noted : goal.returns-in-TypeDef-clause-noted
returns-in-TypeDef-clause-noted c = on_ok c.check_type_form.result _ _ (λ h b ib d k. h b ib d k ∙ ap (λ (f : TreeForm). earliest c.args.first.now (form_faults d b f)) (sym c.in-TypeDef.is)) c.check_type_form.ensures.noted

pub returns-in-TypeDef-clause-added : goal.returns-in-TypeDef-clause-added
returns-in-TypeDef-clause-added c = on_ok c.check_type_form.result _ _ (λ h b ib. subst (λ (f : TreeForm). IsBehind c.check_type_form.new.before (behind f b)) (sym c.in-TypeDef.is) (h b ib)) c.check_type_form.ensures.added

pub returns-in-RecDef-clause-noted : goal.returns-in-RecDef-clause-noted
returns-in-RecDef-clause-noted c = on_ok c.check_record_form.result _ _ (λ h b ib d k. h b ib d k ∙ ap (λ (f : TreeForm). earliest c.args.first.now (form_faults d b f)) (sym c.in-RecDef.is)) c.check_record_form.ensures.noted

pub returns-in-RecDef-clause-added : goal.returns-in-RecDef-clause-added
returns-in-RecDef-clause-added c = on_ok c.check_record_form.result _ _ (λ h b ib. subst (λ (f : TreeForm). IsBehind c.check_record_form.new.before (behind f b)) (sym c.in-RecDef.is) (h b ib)) c.check_record_form.ensures.added

pub returns-in-Spec-clause-noted : goal.returns-in-Spec-clause-noted
returns-in-Spec-clause-noted c = on_ok c.check_spec_form.result _ _ (λ h b ib d k. h b ib d k ∙ ap (λ (f : TreeForm). earliest c.args.first.now (form_faults d b f)) (sym c.in-Spec.is)) c.check_spec_form.ensures.noted

pub returns-in-Spec-clause-added : goal.returns-in-Spec-clause-added
returns-in-Spec-clause-added c = on_ok c.check_spec_form.result _ _ (λ h b ib. subst (λ (f : TreeForm). IsBehind c.check_spec_form.new.before (behind f b)) (sym c.in-Spec.is) (h b ib)) c.check_spec_form.ensures.added

pub returns-in_default-clause-noted : goal.returns-in_default-clause-noted
returns-in_default-clause-noted c = λ b ib d k. ap (earliest c.args.first.now) (sym (other-faults d c.args.form.now b c.in_default.not-TypeDef c.in_default.not-RecDef c.in_default.not-Spec))

pub returns-in_default-clause-added : goal.returns-in_default-clause-added
returns-in_default-clause-added c = λ b ib. subst (λ (x : Behind). IsBehind c.args.before.now x) (sym (other-behind c.args.form.now b c.in_default.not-TypeDef c.in_default.not-RecDef c.in_default.not-Spec)) ib
