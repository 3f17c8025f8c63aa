use Rattle.cert_checker.proofs.TypeTables.{form-types, form-flat}
use Rattle.cert_checker.proofs.spec_table.types_of_form.Goals as goal

pub types_of_spec-requires : goal.types_of_spec-requires
types_of_spec-requires c = form-flat c.args.form.now c.in-Spec.spec c.get.result.now c.in-Spec.is c.get.ensures c.requires

pub returns-in_ok-types-in-Spec : goal.returns-in_ok-types-in-Spec
returns-in_ok-types-in-Spec c = form-types c.args.form.now c.in-Spec.spec c.get.result.now c.in_ok-types-in-Spec.types c.in-Spec.is c.get.ensures c.in_ok-types-in-Spec.ensures
