use Rattle.std.proofs.Common.{arith}
use Rattle.std.specs.Prelude.{IsSome}
use Rattle.flat_modules.specs.FlatSpecs.{clause_arrow}
use Rattle.flat_tests.proofs.ForEach.{left_first, left_next, unmet, met}
use Rattle.flat_tests.proofs.known_types.are_known_clauses.Goals as goal

pub loop-clause-init : goal.loop-clause-init
loop-clause-init c = left_first (λ clause. IsSome (clause_arrow clause)) c.args.clauses.now

pub returns-then-not-is_known_clause : goal.returns-then-not-is_known_clause
returns-then-not-is_known_clause c = unmet (λ clause. IsSome (clause_arrow clause)) c.args.clauses.now _ _ c.is_known_clause.result c.loop-clause-test.true c.clause-item.is c.is_known_clause.ensures c.if-not-is_known_clause.true

pub loop-clause-preserved : goal.loop-clause-preserved
loop-clause-preserved c = left_next (λ clause. IsSome (clause_arrow clause)) c.args.clauses.now _ _ c.loop-clause-test.true c.clause-item.is (c.is_known_clause.ensures.0 c.if-not-is_known_clause.false) c.loop-clause.invariant

pub returns : goal.returns
returns c = met (λ clause. IsSome (clause_arrow clause)) c.args.clauses.now c.loop-clause.clause-index (omega arith) c.loop-clause.invariant
