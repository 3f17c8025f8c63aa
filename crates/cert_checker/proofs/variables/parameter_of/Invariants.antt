use Rattle.cert_checker.proofs.BoundVariables.{NoneBinds}
use Rattle.cert_checker.proofs.variables.parameter_of.Given as goal

abbrev pub invariant-loop-at : goal.invariant-loop-at
invariant-loop-at l = NoneBinds l.scope.patterns.now l.name l.at
