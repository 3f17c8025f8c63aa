use Rattle.examples_runs.proofs.ListsAndTuplesRuns.{lists_and_tuples-run}
use Rattle.examples_runs.proofs.examples.lists_and_tuples.Goals as goal

pub returns : goal.returns
returns c = lists_and_tuples-run
