use Rattle.std.proofs.Common.{◌≡◌, ◌⊎◌, ℕ, get_or, true, false}
use Rattle.std.specs.List.{Contains}
use Rattle.type_terms.proofs.paths.visit.Given as goal

abbrev pub invariant-nodes : goal.invariant-nodes
invariant-nodes l = record {
  in_set : (i : ℕ) → get_or l.seen i false ≡ true → (get_or l.initial.seen i false ≡ true) ⊎ Contains l.nodes i;
  waits : (i : ℕ) → Contains l.waiting i → Contains l.initial.waiting i ⊎ Contains l.nodes i;
}
