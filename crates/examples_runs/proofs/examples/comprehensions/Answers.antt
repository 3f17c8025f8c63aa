use Rattle.examples_runs.proofs.ComprehensionsRuns.{comprehensions-run}
use Rattle.examples_runs.proofs.examples.comprehensions.Goals as goal

pub returns : goal.returns
returns c = comprehensions-run
