use Rattle.examples_runs.proofs.OtherOrdersRuns.{other_orders-run}
use Rattle.examples_runs.proofs.examples.other_orders.Goals as goal

pub returns : goal.returns
returns c = other_orders-run
