use Rattle.unique_answers.proofs.FirstFault.{one-graph-fault}
use Rattle.unique_answers.proofs.graphs.one_graph_fault_is_first.Goals as goal

pub returns : goal.returns
returns c = one-graph-fault
