use Rattle.unique_answers.proofs.FirstFailure.{one-failure, met-or-failed}
use Rattle.unique_answers.proofs.failures.constraints_or_one_failure.Goals as goal

pub returns-clause-one_failure : goal.returns-clause-one_failure
returns-clause-one_failure c = one-failure

pub returns-clause-never_both : goal.returns-clause-never_both
returns-clause-never_both c = met-or-failed
