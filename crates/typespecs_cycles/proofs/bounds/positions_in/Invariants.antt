use Rattle.std.proofs.Common.{[], List}
use Rattle.std.specs.List.{filter_map}
use Rattle.type_terms.specs.Keys.{Name}
use Rattle.typespecs_rules.specs.TypeVariables.{own_variable, place_among}
use Rattle.typespecs_cycles.specs.Positions.{KnowsPositions}
use Rattle.typespecs_cycles.proofs.Gathering.{IsGathered}
use Rattle.typespecs_cycles.proofs.bounds.positions_in.Given as goal

abbrev pub invariant-loop-inner : goal.invariant-loop-inner
invariant-loop-inner l = (names : List Name) → KnowsPositions l.positions.entries names → IsGathered (λ t. filter_map (place_among names) (own_variable t.now)) l.inner-items [] l.inner-index l.list
