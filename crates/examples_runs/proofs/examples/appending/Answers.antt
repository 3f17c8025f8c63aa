use Rattle.examples_runs.proofs.AppendingRuns.{appending-run}
use Rattle.examples_runs.proofs.examples.appending.Goals as goal

pub returns : goal.returns
returns c = appending-run
