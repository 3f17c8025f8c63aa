use Rattle.typespecs_rules.specs.Declarations.{Declarations}
use Rattle.typespecs_cycles.specs.Edges.{AreUsesOf}
use Rattle.typespecs_cycles.specs.GraphFaults.{IsIrregularUse}
use Rattle.typespecs_cycles.proofs.FirstLaws.{IsFirstTo}
use Rattle.typespecs_cycles.proofs.uses.check_uses.Given as goal

abbrev pub invariant-loop-t : goal.invariant-loop-t
invariant-loop-t l = (d : Declarations) → AreUsesOf l.uses d → IsFirstTo (λ t. IsIrregularUse d l.fn.number l.params t.now) l.types l.initial.first l.t-index l.first
