use Rattle.cert_checker.proofs.Small.{none-goes}
use Rattle.cert_checker.proofs.examples.a_run_without_steps.Goals as goal

pub returns : goal.returns
returns c = none-goes
