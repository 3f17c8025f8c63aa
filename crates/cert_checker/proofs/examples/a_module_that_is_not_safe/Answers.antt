use Rattle.cert_checker.proofs.Small.{constant-flat, constant-not_safe, constant-failure}
use Rattle.cert_checker.proofs.examples.a_module_that_is_not_safe.Goals as goal

pub returns-clause-flat : goal.returns-clause-flat
returns-clause-flat c = constant-flat

pub returns-clause-not_safe : goal.returns-clause-not_safe
returns-clause-not_safe c = constant-not_safe

pub returns-clause-shown : goal.returns-clause-shown
returns-clause-shown c = constant-failure
