use Rattle.examples_runs.proofs.OwnOutcomesRuns.{own_outcomes-run}
use Rattle.examples_runs.proofs.examples.own_outcomes.Goals as goal

pub returns : goal.returns
returns c = own_outcomes-run
