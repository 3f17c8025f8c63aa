use Rattle.std.proofs.Common.{◌≡◌, ◌∙◌, ◌+◌, ◌++◌, [], ◌∷◌, ap, sym, subst, length, take}
use Rattle.std.proofs.lemmas.List.{take_more}
use Rattle.erl_runs.specs.Records.{records_in}
use Rattle.typespecs_rules.specs.SpecTerms.{records_from}
use Rattle.typespecs.proofs.FormLists.{records_next}
use Rattle.typespecs.proofs.records.records_among.Goals as goal

pub loop-form-preserved : goal.loop-form-preserved
loop-form-preserved c =
    subst (λ fs. (c.add_record.new.records ≡ records_from c.args.first (records_in fs)) × (c.add_record.new.number ≡ c.args.first + length (records_in fs)))
    (sym (take_more c.args.forms.now c.loop-form.form-index c.form-item.result c.loop-form-test.true ∙ ap (λ f. take c.loop-form.form-index c.args.forms.now ++ f ∷ []) (sym c.form-item.is)))
    (records_next c.args.first c.loop-form.number c.add_record.new.number (take c.loop-form.form-index c.args.forms.now) (c.form-item.result ∷ []) c.loop-form.records c.add_record.new.records c.loop-form.invariant.0 c.loop-form.invariant.1 c.in_ok-add_record.ensures.records c.in_ok-add_record.ensures.number)
