use Rattle.cert_checker.proofs.Small.{recursive-flat, recursive-safe}
use Rattle.cert_checker.proofs.examples.a_safe_module_that_calls_itself.Goals as goal

pub returns-clause-flat : goal.returns-clause-flat
returns-clause-flat c = recursive-flat

pub returns-clause-safe : goal.returns-clause-safe
returns-clause-safe c = recursive-safe
