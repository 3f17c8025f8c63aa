use Rattle.examples_runs.proofs.OtherScopesRuns.{other_scopes-run}
use Rattle.examples_runs.proofs.examples.other_scopes.Goals as goal

pub returns : goal.returns
returns c = other_scopes-run
