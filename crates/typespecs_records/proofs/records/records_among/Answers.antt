use Rattle.std.proofs.Common.{◌∙◌}
use Rattle.typespecs_records.specs.Records.{records_seen}
use Rattle.typespecs_records.proofs.LoopLaws.{records-more, records-same}
use Rattle.typespecs_records.proofs.records.records_among.Goals as goal
use Rattle.typespecs_records.proofs.records.records_among.Goals.{in-RecDef+in_ok-push, in_default}

pub forms-preserved : goal.forms-preserved
forms-preserved c =
    elim c.match-form.branch [
      | in-RecDef+in_ok-push w ↦ (λ j. records_seen (w.records-is j).items) ∙ records-more c.args.forms.now c.forms.form-index c.form-item.result c.forms-test.true c.form-item.is w.in-RecDef.declaration c.forms.records.items w.push.new.self.items w.get.result w.in-RecDef.is w.get.ensures w.in_ok-push.ensures.items c.forms.invariant
      | in_default w ↦ (λ j. records_seen (w.records-is j).items) ∙ records-same c.args.forms.now c.forms.form-index c.form-item.result c.forms-test.true c.form-item.is c.forms.records.items w.in_default.not-RecDef c.forms.invariant
    ]
