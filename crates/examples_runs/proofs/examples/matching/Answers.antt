use Rattle.examples_runs.proofs.MatchingRuns.{matching-run}
use Rattle.examples_runs.proofs.examples.matching.Goals as goal

pub returns : goal.returns
returns c = matching-run
