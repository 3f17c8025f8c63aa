use Rattle.examples_runs.proofs.KindsInOrderRuns.{kinds_in_order-run}
use Rattle.examples_runs.proofs.examples.kinds_in_order.Goals as goal

pub returns : goal.returns
returns c = kinds_in_order-run
