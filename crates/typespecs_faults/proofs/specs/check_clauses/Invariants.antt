use Rattle.typespecs_rules.specs.Declarations.{Declarations}
use Rattle.typespecs_rules.specs.TypeFaults.{clause_faults}
use Rattle.typespecs_faults.specs.Noted.{KnowsDeclared}
use Rattle.typespecs_faults.proofs.Rows.{IsNotedTo}
use Rattle.typespecs_faults.proofs.specs.check_clauses.Given as goal

abbrev pub invariant-loop-clause : goal.invariant-loop-clause
invariant-loop-clause l = (d : Declarations) → KnowsDeclared l.scope d → IsNotedTo (clause_faults d) l.clauses l.initial.first l.clause-index l.first
