use Rattle.typespecs_rules.specs.Declarations.{Declarations}
use Rattle.typespecs_rules.specs.TypeFaults.{type_faults}
use Rattle.typespecs_faults.specs.NameSets.{has_name}
use Rattle.typespecs_faults.specs.Noted.{KnowsDeclared}
use Rattle.typespecs_faults.proofs.Rows.{IsNotedTo}
use Rattle.typespecs_faults.proofs.specs.check_types.Given as goal

abbrev pub invariant-loop-one : goal.invariant-loop-one
invariant-loop-one l = (d : Declarations) → KnowsDeclared l.scope d → IsNotedTo (type_faults d (has_name l.allowed)) l.types l.initial.first l.one-index l.first
