use Rattle.typespecs_cycles.specs.GraphFaults.{IsCyclicClause}
use Rattle.typespecs_cycles.proofs.FirstLaws.{IsFirstTo}
use Rattle.typespecs_cycles.proofs.bounds.check_clauses.Given as goal

abbrev pub invariant-loop-clause : goal.invariant-loop-clause
invariant-loop-clause l = IsFirstTo IsCyclicClause l.clauses l.initial.first l.clause-index l.first
