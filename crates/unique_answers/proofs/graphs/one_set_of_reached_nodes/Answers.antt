use Rattle.unique_answers.proofs.Cycles.{one-reached}
use Rattle.unique_answers.proofs.graphs.one_set_of_reached_nodes.Goals as goal

pub returns : goal.returns
returns c = one-reached
