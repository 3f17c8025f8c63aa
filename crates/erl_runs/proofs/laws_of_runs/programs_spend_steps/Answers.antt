use Rattle.erl_runs.proofs.SpentSteps.{spends}
use Rattle.erl_runs.proofs.laws_of_runs.programs_spend_steps.Goals as goal

pub returns : goal.returns
returns c = spends
