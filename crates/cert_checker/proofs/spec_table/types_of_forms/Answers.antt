use Rattle.cert_checker.proofs.Takes.{item-found}
use Rattle.cert_checker.proofs.TypeTables.{types-more}
use Rattle.cert_checker.proofs.spec_table.types_of_forms.Goals as goal

pub loop-form-preserved : goal.loop-form-preserved
loop-form-preserved c =
    let f = item-found c.as_slice-form-items.result.now c.args.forms.now c.loop-form.form-index c.form-item.result c.as_slice-form-items.ensures c.loop-form-test.true c.form-item.is in
    types-more c.args.forms.now c.loop-form.form-index c.form-item.result c.loop-form.types c.push.new.self c.in_ok-form_types.form_types f c.in_ok-push.ensures.ok c.in_ok-form_types.ensures c.loop-form.invariant
