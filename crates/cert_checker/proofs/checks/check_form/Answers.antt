use Rattle.std.proofs.Common.{◌∙◌, ap}
use Rattle.std.specs.Prelude.{Some}
use Rattle.cert_checker.proofs.Sequences.{place-function}
use Rattle.cert_checker.proofs.checks.check_form.Goals as goal

pub check_function-requires-clause-function : goal.check_function-requires-clause-function
check_function-requires-clause-function c = place-function c.args.module.now.forms c.requires.form.0 c.in-Function.function (c.requires.form.1 ∙ ap Some c.in-Function.is)
