use Rattle.std.proofs.Common.{subst}
use Rattle.cert_checker.specs.Failures.{IsCompared}
use Rattle.cert_checker.proofs.Failing.{key-shown}
use Rattle.cert_checker.proofs.comparison.check_within.Goals as goal

pub returns-in-None-clause-holds : goal.returns-in-None-clause-holds
returns-in-None-clause-holds c s t w d = subst (IsCompared s t) c.in-None.is (c.in_ok-first_outside.ensures s t w d)

pub returns-in-Some-clause-fails : goal.returns-in-Some-clause-fails
returns-in-Some-clause-fails c s t w d = key-shown c.args.scope.now.number c.args.place c.args.kind s t c.in-Some.key (subst (IsCompared s t) c.in-Some.is (c.in_ok-first_outside.ensures s t w d))
