use Rattle.cert_checker.proofs.Small.{range-term, range-within, range-not_all}
use Rattle.cert_checker.proofs.examples.a_range.Goals as goal

pub returns-clause-term : goal.returns-clause-term
returns-clause-term c = range-term

pub returns-clause-within : goal.returns-clause-within
returns-clause-within c = range-within

pub returns-clause-not_all : goal.returns-clause-not_all
returns-clause-not_all c = range-not_all
