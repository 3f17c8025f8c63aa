use Rattle.examples_runs.proofs.BodiesRuns.{bodies-run}
use Rattle.examples_runs.proofs.examples.bodies.Goals as goal

pub returns : goal.returns
returns c = bodies-run
