use Rattle.examples_runs.proofs.LargeNumbersRuns.{large_numbers-run}
use Rattle.examples_runs.proofs.examples.large_numbers.Goals as goal

pub returns : goal.returns
returns c = large_numbers-run
