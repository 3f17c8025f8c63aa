use Rattle.std.proofs.Common.{ℕ, ◌<◌}
use Rattle.type_terms.specs.Graphs.{FallsFrom}
use Rattle.type_terms.proofs.paths.first_not_falling.Given as goal

abbrev pub invariant-nodes : goal.invariant-nodes
invariant-nodes l = (n : ℕ) → n < l.node → FallsFrom l.graph l.ranks n
