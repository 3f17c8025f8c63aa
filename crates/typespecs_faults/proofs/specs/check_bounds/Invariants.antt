use Rattle.typespecs_rules.specs.Declarations.{Declarations}
use Rattle.typespecs_faults.specs.NameSets.{has_name}
use Rattle.typespecs_faults.specs.Specs.{bound_faults}
use Rattle.typespecs_faults.specs.Noted.{KnowsDeclared}
use Rattle.typespecs_faults.proofs.Rows.{IsNotedTo}
use Rattle.typespecs_faults.proofs.specs.check_bounds.Given as goal

abbrev pub invariant-loop-bound : goal.invariant-loop-bound
invariant-loop-bound l = (d : Declarations) → KnowsDeclared l.scope d → IsNotedTo (bound_faults d (has_name l.allowed)) l.bounds l.initial.first l.bound-index l.first
