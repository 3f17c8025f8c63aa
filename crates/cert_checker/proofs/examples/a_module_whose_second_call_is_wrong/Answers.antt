use Rattle.cert_checker.proofs.Small.{second-flat, second-not_safe, second-failure}
use Rattle.cert_checker.proofs.examples.a_module_whose_second_call_is_wrong.Goals as goal

pub returns-clause-flat : goal.returns-clause-flat
returns-clause-flat c = second-flat

pub returns-clause-not_safe : goal.returns-clause-not_safe
returns-clause-not_safe c = second-not_safe

pub returns-clause-shown : goal.returns-clause-shown
returns-clause-shown c = second-failure
