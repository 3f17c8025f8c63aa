use Rattle.examples_runs.proofs.CallsAndStepsRuns.{steps_that_suffice-runs, a_step_too_few-runs, steps_that_are_used_up-runs}
use Rattle.examples_runs.proofs.calls_and_steps.used_up.Goals as goal

pub returns-clause-steps_that_suffice : goal.returns-clause-steps_that_suffice
returns-clause-steps_that_suffice c = steps_that_suffice-runs

pub returns-clause-a_step_too_few : goal.returns-clause-a_step_too_few
returns-clause-a_step_too_few c = a_step_too_few-runs

pub returns-clause-steps_that_are_used_up : goal.returns-clause-steps_that_are_used_up
returns-clause-steps_that_are_used_up c = steps_that_are_used_up-runs
