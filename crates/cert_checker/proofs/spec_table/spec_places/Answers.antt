use Rattle.std.proofs.Common.{◌≡◌, subst, length, arith}
use Rattle.std.specs.Prelude.{Some, slice_get}
use Rattle.std.proofs.lemmas.Option.{slice_get_read}
use Rattle.cert_checker.proofs.Tables.{holds-more}
use Rattle.cert_checker.proofs.spec_table.spec_places.Goals as goal

pub loop-at-preserved : goal.loop-at-preserved
loop-at-preserved c =
    let items = c.as_slice-form-items.ensures in
    let found : slice_get c.args.forms.now c.loop-at.at ≡ Some c.form-item.result =
    subst (λ z. slice_get z c.loop-at.at ≡ Some c.form-item.result) items (slice_get_read c.as_slice-form-items.result.now (length c.as_slice-form-items.result.now) c.loop-at.at c.form-item.result (omega arith) c.loop-at-test.true c.form-item.is) in
    holds-more c.args.forms.now c.loop-at.table c.add_form.new.table c.form-item.result c.loop-at.at c.loop-at.invariant found c.in_ok-add_form.ensures
