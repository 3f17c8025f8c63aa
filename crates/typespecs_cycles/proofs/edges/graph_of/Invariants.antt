use Rattle.std.proofs.Common.{[], ◌∷◌}
use Rattle.typespecs_rules.specs.Declarations.{Declarations}
use Rattle.typespecs_rules.specs.TypeParts.{from_each}
use Rattle.typespecs_names.specs.Numbers.{KnowsNumbers}
use Rattle.typespecs_cycles.specs.DeclarationParts.{inner_of}
use Rattle.typespecs_cycles.specs.Edges.{edges_of}
use Rattle.typespecs_cycles.proofs.Gathering.{IsGathered}
use Rattle.typespecs_cycles.proofs.edges.graph_of.Given as goal

abbrev pub invariant-loop-part : goal.invariant-loop-part
invariant-loop-part l = (d : Declarations) → KnowsNumbers l.numbers d → IsGathered (λ p. from_each (edges_of l.fn.edges d) (inner_of p).1 ∷ []) l.parts [] l.part-index l.graph.items
