use Rattle.flat_tests.proofs.Variables.{IsBoundLater}
use Rattle.flat_tests.proofs.heads.is_bound.Given as goal

abbrev pub invariant-loop-pattern : goal.invariant-loop-pattern
invariant-loop-pattern l = IsBoundLater l.name l.patterns l.pattern-index
