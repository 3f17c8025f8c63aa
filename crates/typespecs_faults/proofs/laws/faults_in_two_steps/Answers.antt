use Rattle.typespecs_faults.proofs.EarliestLaws.{earliest-append}
use Rattle.typespecs_faults.proofs.laws.faults_in_two_steps.Goals as goal

pub returns : goal.returns
returns c = earliest-append
