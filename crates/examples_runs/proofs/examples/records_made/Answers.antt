use Rattle.examples_runs.proofs.RecordsMadeRuns.{records_made-run}
use Rattle.examples_runs.proofs.examples.records_made.Goals as goal

pub returns : goal.returns
returns c = records_made-run
