use Rattle.cert_checker.proofs.Small.{identity-gives}
use Rattle.cert_checker.proofs.examples.a_run_that_gives_a_value.Goals as goal

pub returns : goal.returns
returns c = identity-gives
