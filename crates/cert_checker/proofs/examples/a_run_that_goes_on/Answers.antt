use Rattle.cert_checker.proofs.Small.{recursive-goes}
use Rattle.cert_checker.proofs.examples.a_run_that_goes_on.Goals as goal

pub returns : goal.returns
returns c = recursive-goes
