use Rattle.std.proofs.Common.{ℕ, ◌<◌, ◌≤◌, get_or}
use Rattle.type_terms.proofs.paths.are_at_most.Given as goal

abbrev pub invariant-nodes : goal.invariant-nodes
invariant-nodes l = (k : ℕ) → k < l.node-index → get_or l.ranks (get_or l.nodes k 0) 0 ≤ l.rank
