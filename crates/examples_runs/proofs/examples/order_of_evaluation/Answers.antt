use Rattle.examples_runs.proofs.OrderOfEvaluationRuns.{order_of_evaluation-run}
use Rattle.examples_runs.proofs.examples.order_of_evaluation.Goals as goal

pub returns : goal.returns
returns c = order_of_evaluation-run
