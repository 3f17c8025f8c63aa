use Rattle.examples_runs.proofs.ScopesRuns.{scopes-run}
use Rattle.examples_runs.proofs.examples.scopes.Goals as goal

pub returns : goal.returns
returns c = scopes-run
