use Rattle.typespecs_rules.specs.Declarations.{Declarations}
use Rattle.typespecs_rules.specs.TypeFaults.{own_faults}
use Rattle.typespecs_faults.specs.NameSets.{has_name}
use Rattle.typespecs_faults.specs.Noted.{KnowsDeclared}
use Rattle.typespecs_faults.proofs.Rows.{IsNotedTo}
use Rattle.typespecs_faults.proofs.types.note_each.Given as goal

abbrev pub invariant-loop-one : goal.invariant-loop-one
invariant-loop-one l = (d : Declarations) → KnowsDeclared l.scope d → IsNotedTo (λ b. own_faults d (has_name l.allowed) b.now) l.types l.initial.first l.one-index l.first
