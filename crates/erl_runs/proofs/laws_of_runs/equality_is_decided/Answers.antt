use Rattle.erl_runs.proofs.OrderTurns.{value-same}
use Rattle.erl_runs.proofs.OrderEquals.{value-equal}
use Rattle.erl_runs.proofs.laws_of_runs.equality_is_decided.Goals as goal

pub returns-clause-equal_values : goal.returns-clause-equal_values
returns-clause-equal_values c = value-equal

pub returns-clause-same_value : goal.returns-clause-same_value
returns-clause-same_value c = value-same
