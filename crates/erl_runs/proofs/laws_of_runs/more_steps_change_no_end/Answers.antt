use Rattle.erl_runs.proofs.MoreSteps.{ended-more}
use Rattle.erl_runs.proofs.laws_of_runs.more_steps_change_no_end.Goals as goal

pub returns : goal.returns
returns c = ended-more
