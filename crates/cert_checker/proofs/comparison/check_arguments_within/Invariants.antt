use Rattle.cert_checker.proofs.Arguments.{WithinSoFar}
use Rattle.cert_checker.proofs.comparison.check_arguments_within.Given as goal

abbrev pub invariant-loop-at : goal.invariant-loop-at
invariant-loop-at l = WithinSoFar l.scope l.args l.params l.at
