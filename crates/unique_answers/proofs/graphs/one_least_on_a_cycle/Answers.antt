use Rattle.unique_answers.proofs.Cycles.{one-least}
use Rattle.unique_answers.proofs.graphs.one_least_on_a_cycle.Goals as goal

pub returns : goal.returns
returns c = one-least
