use Rattle.std.proofs.Common.{arith}
use Rattle.typespecs_cycles.specs.GraphFaults.{IsCyclicClause}
use Rattle.typespecs_cycles.proofs.FirstLaws.{first-start, first-next, first-end}
use Rattle.typespecs_cycles.proofs.bounds.check_clauses.Goals as goal

pub loop-clause-init : goal.loop-clause-init
loop-clause-init c = first-start IsCyclicClause c.args.clauses.now c.args.first.now

pub loop-clause-preserved : goal.loop-clause-preserved
loop-clause-preserved c = first-next IsCyclicClause c.args.clauses.now c.args.first.now c.loop-clause.clause-index c.clause-item.result c.loop-clause.first c.check_clause.new.first c.loop-clause-test.true c.clause-item.is c.in_ok-check_clause.ensures c.loop-clause.invariant

pub returns : goal.returns
returns c = first-end IsCyclicClause c.args.clauses.now c.args.first.now c.loop-clause.clause-index c.loop-clause.first (omega arith) c.loop-clause.invariant
