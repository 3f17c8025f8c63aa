use Rattle.examples_runs.proofs.RaisingRuns.{raising-run}
use Rattle.examples_runs.proofs.examples.raising.Goals as goal

pub returns : goal.returns
returns c = raising-run
