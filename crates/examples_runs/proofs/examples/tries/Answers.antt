use Rattle.examples_runs.proofs.TriesRuns.{tries-run}
use Rattle.examples_runs.proofs.examples.tries.Goals as goal

pub returns : goal.returns
returns c = tries-run
