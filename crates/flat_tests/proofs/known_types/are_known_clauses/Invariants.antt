use Rattle.std.specs.Prelude.{IsSome}
use Rattle.flat_modules.specs.FlatSpecs.{clause_arrow}
use Rattle.flat_tests.proofs.ForEach.{IsLeft}
use Rattle.flat_tests.proofs.known_types.are_known_clauses.Given as goal

abbrev pub invariant-loop-clause : goal.invariant-loop-clause
invariant-loop-clause l = IsLeft (λ clause. IsSome (clause_arrow clause)) l.clauses l.clause-index
