use Rattle.std.proofs.Common.{ℕ, ◌<◌, ◌≤◌, [], get_or}
use Rattle.std.specs.List.{Contains}
use Rattle.type_terms.proofs.paths.never_rises.Given as goal

abbrev pub invariant-nodes : goal.invariant-nodes
invariant-nodes l = (n : ℕ) → n < l.node → (m : ℕ) → Contains (get_or l.graph n []) m → get_or l.ranks m 0 ≤ get_or l.ranks n 0
