use Rattle.flat_modules.specs.FlatModules.{HasDistinctHead}
use Rattle.flat_tests.proofs.ForEach.{IsLeft}
use Rattle.flat_tests.proofs.heads.have_distinct_heads.Given as goal

abbrev pub invariant-loop-clause : goal.invariant-loop-clause
invariant-loop-clause l = IsLeft (HasDistinctHead) l.clauses l.clause-index
