use Rattle.std.proofs.Common.{◌≡◌, ℕ, ◌<◌, [], get_or, true, false}
use Rattle.type_terms.specs.Graphs.{AreIn}
use Rattle.type_terms.proofs.paths.is_closed.Given as goal

abbrev pub invariant-nodes : goal.invariant-nodes
invariant-nodes l = (n : ℕ) → n < l.node → get_or l.set n false ≡ true → AreIn l.set (get_or l.graph n [])
