use Rattle.std.proofs.Common.{ℕ, ◌<◌}
use Rattle.type_terms.specs.Paths.{IsPath}
use Rattle.type_terms.proofs.paths.least_on_cycle.Given as goal

abbrev pub invariant-nodes : goal.invariant-nodes
invariant-nodes l = (n : ℕ) → n < l.node → IsPath l.graph n n → ⊥
