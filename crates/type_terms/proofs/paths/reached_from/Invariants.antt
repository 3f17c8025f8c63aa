use Rattle.std.proofs.Common.{◌≡◌, ℕ, get_or, true, false}
use Rattle.std.specs.List.{Contains}
use Rattle.type_terms.specs.Paths.{IsPath}
use Rattle.type_terms.proofs.paths.reached_from.Given as goal

abbrev pub invariant-steps : goal.invariant-steps
invariant-steps l = record {
  reached : (i : ℕ) → get_or l.seen i false ≡ true → IsPath l.graph l.node i;
  waits : (i : ℕ) → Contains l.waiting i → IsPath l.graph l.node i;
}
