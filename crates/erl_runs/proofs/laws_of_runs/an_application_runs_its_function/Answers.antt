use Rattle.erl_runs.proofs.BoundFree.{apply-none, apply-step}
use Rattle.erl_runs.proofs.laws_of_runs.an_application_runs_its_function.Goals as goal

pub returns-clause-step : goal.returns-clause-step
returns-clause-step c = apply-step

pub returns-clause-no_step : goal.returns-clause-no_step
returns-clause-no_step c = apply-none
