use Rattle.std.proofs.Common.{[], ◌∷◌}
use Rattle.std.specs.List.{filter_map}
use Rattle.typespecs_rules.specs.Bounds.{bounded}
use Rattle.typespecs_rules.specs.TypeVariables.{variables_of, place_among}
use Rattle.typespecs_cycles.proofs.Gathering.{IsGathered}
use Rattle.typespecs_cycles.proofs.bounds.bound_graph.Given as goal

abbrev pub invariant-loop-bound : goal.invariant-loop-bound
invariant-loop-bound l = IsGathered (λ b. filter_map (place_among (bounded l.bounds)) (variables_of b.1) ∷ []) l.bounds [] l.bound-index l.graph.items
