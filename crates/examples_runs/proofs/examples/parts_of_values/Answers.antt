use Rattle.examples_runs.proofs.PartsOfValuesRuns.{parts_of_values-run}
use Rattle.examples_runs.proofs.examples.parts_of_values.Goals as goal

pub returns : goal.returns
returns c = parts_of_values-run
