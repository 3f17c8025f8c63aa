use Rattle.examples_runs.proofs.FunsRuns.{funs-run}
use Rattle.examples_runs.proofs.examples.funs.Goals as goal

pub returns : goal.returns
returns c = funs-run
