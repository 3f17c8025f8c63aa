use Rattle.examples_runs.proofs.CasesRuns.{cases-run}
use Rattle.examples_runs.proofs.examples.cases.Goals as goal

pub returns : goal.returns
returns c = cases-run
