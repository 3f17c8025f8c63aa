use Rattle.examples_runs.proofs.FunctionsRuns.{functions-run}
use Rattle.examples_runs.proofs.examples.functions.Goals as goal

pub returns : goal.returns
returns c = functions-run
