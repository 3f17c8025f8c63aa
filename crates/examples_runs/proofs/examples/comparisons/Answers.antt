use Rattle.examples_runs.proofs.ComparisonsRuns.{comparisons-run}
use Rattle.examples_runs.proofs.examples.comparisons.Goals as goal

pub returns : goal.returns
returns c = comparisons-run
