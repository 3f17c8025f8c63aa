use Rattle.cert_checker.proofs.Small.{identity-flat, identity-safe}
use Rattle.cert_checker.proofs.examples.a_safe_module.Goals as goal

pub returns-clause-flat : goal.returns-clause-flat
returns-clause-flat c = identity-flat

pub returns-clause-safe : goal.returns-clause-safe
returns-clause-safe c = identity-safe
