use Rattle.erl_scope_rules.proofs.EarliestLaws.{earliest-append}
use Rattle.erl_scope_rules.proofs.laws.faults_in_two_steps.Goals as goal

pub returns : goal.returns
returns c = earliest-append
