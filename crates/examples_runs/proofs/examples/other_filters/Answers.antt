use Rattle.examples_runs.proofs.OtherFiltersRuns.{other_filters-run}
use Rattle.examples_runs.proofs.examples.other_filters.Goals as goal

pub returns : goal.returns
returns c = other_filters-run
