use Rattle.std.proofs.Common.{length}
use Rattle.type_terms.proofs.graph.component_ranks.Given as goal

abbrev pub decreases-roots : goal.decreases-roots
decreases-roots l = length l.order
