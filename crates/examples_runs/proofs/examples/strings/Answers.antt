use Rattle.examples_runs.proofs.StringsRuns.{strings-run}
use Rattle.examples_runs.proofs.examples.strings.Goals as goal

pub returns : goal.returns
returns c = strings-run
