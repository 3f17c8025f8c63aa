use Rattle.flat_tests.proofs.Variables.{AreDistinctBefore}
use Rattle.flat_tests.proofs.heads.has_distinct_names.Given as goal

abbrev pub invariant-loop-i : goal.invariant-loop-i
invariant-loop-i l = AreDistinctBefore l.patterns l.i
