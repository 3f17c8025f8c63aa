use Rattle.std.proofs.Common.{[], ◌∷◌, subst}
use Rattle.erl_runs.specs.Specs.{all_present}
use Rattle.typespecs.specs.Reads.{given_all}
use Rattle.typespecs.proofs.Present.{added-next, added-stops}
use Rattle.typespecs.proofs.Declared.{records_of, records_append}
use Rattle.typespecs.proofs.definitions.add_records.Goals as goal

pub returns-then-not-branch : goal.returns-then-not-branch
returns-then-not-branch c = λ d reads.
    added-stops (records_of d) (records_append d) c.args.forms.now c.loop-form.form-index c.form-item.result c.loop-form-test.true c.form-item.is c.loop-form.defs c.add_record.new.defs
    (subst (λ b. given_all (all_present (records_of d (c.form-item.result ∷ []))) b c.loop-form.defs c.add_record.new.defs) c.if-not-branch.true (c.in_ok-add_record.ensures d reads))

pub loop-form-preserved : goal.loop-form-preserved
loop-form-preserved c = λ d reads.
    added-next (records_of d) (records_append d) c.args.forms.now c.loop-form.form-index c.form-item.result c.loop-form-test.true c.form-item.is c.args.defs.now c.loop-form.defs c.add_record.new.defs (c.loop-form.invariant d reads)
    (subst (λ b. given_all (all_present (records_of d (c.form-item.result ∷ []))) b c.loop-form.defs c.add_record.new.defs) c.if-not-branch.false (c.in_ok-add_record.ensures d reads))
