use Rattle.std.proofs.Common.{◌≡◌, ℕ, ◌<◌, get_or, true, false}
use Rattle.type_terms.proofs.paths.are_in.Given as goal

abbrev pub invariant-nodes : goal.invariant-nodes
invariant-nodes l = (k : ℕ) → k < l.node-index → get_or l.set (get_or l.nodes k 0) false ≡ true
