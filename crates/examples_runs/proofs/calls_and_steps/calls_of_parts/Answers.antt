use Rattle.examples_runs.proofs.CallsAndStepsRuns.{calls_before_an_exception-runs, calls_before_wrong-runs, calls_in_a_try-runs, calls_in_a_comprehension-runs}
use Rattle.examples_runs.proofs.calls_and_steps.calls_of_parts.Goals as goal

pub returns-clause-calls_before_an_exception : goal.returns-clause-calls_before_an_exception
returns-clause-calls_before_an_exception c = calls_before_an_exception-runs

pub returns-clause-calls_before_wrong : goal.returns-clause-calls_before_wrong
returns-clause-calls_before_wrong c = calls_before_wrong-runs

pub returns-clause-calls_in_a_try : goal.returns-clause-calls_in_a_try
returns-clause-calls_in_a_try c = calls_in_a_try-runs

pub returns-clause-calls_in_a_comprehension : goal.returns-clause-calls_in_a_comprehension
returns-clause-calls_in_a_comprehension c = calls_in_a_comprehension-runs
