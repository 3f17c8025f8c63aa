use Rattle.cert_checker.proofs.Small.{arity-wrong, unbound-wrong, second-wrong}
use Rattle.cert_checker.proofs.examples.runs_that_go_wrong.Goals as goal

pub returns-clause-arity : goal.returns-clause-arity
returns-clause-arity c = arity-wrong

pub returns-clause-unbound : goal.returns-clause-unbound
returns-clause-unbound c = unbound-wrong

pub returns-clause-sum : goal.returns-clause-sum
returns-clause-sum c = second-wrong
