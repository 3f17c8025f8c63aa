use Rattle.examples_runs.proofs.ArithmeticRuns.{arithmetic-run}
use Rattle.examples_runs.proofs.examples.arithmetic.Goals as goal

pub returns : goal.returns
returns c = arithmetic-run
