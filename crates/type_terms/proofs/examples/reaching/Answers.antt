use Rattle.type_terms.proofs.ListExamples.{alternative-reaches}
use Rattle.type_terms.proofs.SmallCases.{reaches-itself}
use Rattle.type_terms.proofs.SignExamples.{reaches-not-itself}
use Rattle.type_terms.proofs.examples.reaching.Goals as goal

pub returns-clause-alternative : goal.returns-clause-alternative
returns-clause-alternative c = alternative-reaches

pub returns-clause-open_argument : goal.returns-clause-open_argument
returns-clause-open_argument c = reaches-itself

pub returns-clause-other : goal.returns-clause-other
returns-clause-other c = reaches-not-itself
