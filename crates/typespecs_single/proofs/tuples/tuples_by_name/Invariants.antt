use Rattle.typespecs_terms.specs.Tables.{tuples_in}
use Rattle.typespecs_single.proofs.DeclaredTuples.{HasTuplesTo}
use Rattle.typespecs_single.proofs.tuples.tuples_by_name.Given as goal

abbrev pub invariant-records : goal.invariant-records
invariant-records l = HasTuplesTo l.specs l.record-index (tuples_in l.tuples)
