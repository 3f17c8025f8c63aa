use Rattle.examples_runs.proofs.FunNumbersRuns.{fun_numbers-run}
use Rattle.examples_runs.proofs.examples.fun_numbers.Goals as goal

pub returns : goal.returns
returns c = fun_numbers-run
