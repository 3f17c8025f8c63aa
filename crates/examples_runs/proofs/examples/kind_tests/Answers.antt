use Rattle.examples_runs.proofs.KindTestsRuns.{kind_tests-run}
use Rattle.examples_runs.proofs.examples.kind_tests.Goals as goal

pub returns : goal.returns
returns c = kind_tests-run
