use Rattle.examples_runs.proofs.GuardsRuns.{guards-run}
use Rattle.examples_runs.proofs.examples.guards.Goals as goal

pub returns : goal.returns
returns c = guards-run
