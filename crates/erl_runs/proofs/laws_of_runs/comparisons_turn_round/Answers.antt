use Rattle.erl_runs.proofs.OrderTurns.{value-turn}
use Rattle.erl_runs.proofs.laws_of_runs.comparisons_turn_round.Goals as goal

pub returns : goal.returns
returns c = value-turn
