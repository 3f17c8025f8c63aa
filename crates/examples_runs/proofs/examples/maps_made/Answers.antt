use Rattle.examples_runs.proofs.MapsMadeRuns.{maps_made-run}
use Rattle.examples_runs.proofs.examples.maps_made.Goals as goal

pub returns : goal.returns
returns c = maps_made-run
