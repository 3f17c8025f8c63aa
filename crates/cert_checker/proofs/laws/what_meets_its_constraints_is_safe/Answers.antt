use Rattle.cert_checker.proofs.Safe.{meets-safe, specs-safe}
use Rattle.cert_checker.proofs.laws.what_meets_its_constraints_is_safe.Goals as goal

pub returns-clause-flat : goal.returns-clause-flat
returns-clause-flat c = meets-safe

pub returns-clause-specs : goal.returns-clause-specs
returns-clause-specs c = specs-safe
