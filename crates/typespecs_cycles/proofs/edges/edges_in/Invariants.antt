use Rattle.std.proofs.Common.{[]}
use Rattle.typespecs_rules.specs.Declarations.{Declarations}
use Rattle.typespecs_names.specs.Numbers.{KnowsNumbers}
use Rattle.typespecs_cycles.specs.Edges.{edges_of}
use Rattle.typespecs_cycles.proofs.Gathering.{IsGathered}
use Rattle.typespecs_cycles.proofs.edges.edges_in.Given as goal

abbrev pub invariant-loop-t : goal.invariant-loop-t
invariant-loop-t l = (d : Declarations) → KnowsNumbers l.numbers d → IsGathered (λ t. edges_of l.fn.edges d t.now) l.types [] l.t-index l.list
