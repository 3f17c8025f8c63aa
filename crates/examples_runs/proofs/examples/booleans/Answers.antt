use Rattle.examples_runs.proofs.BooleansRuns.{booleans-run}
use Rattle.examples_runs.proofs.examples.booleans.Goals as goal

pub returns : goal.returns
returns c = booleans-run
