use Rattle.type_terms.proofs.ListExamples.{own-alternative}
use Rattle.type_terms.proofs.SmallCases.{own-name, open-argument, closed-argument}
use Rattle.type_terms.proofs.examples.contractive_definitions.Goals as goal

pub returns-clause-own_name : goal.returns-clause-own_name
returns-clause-own_name c = own-name

pub returns-clause-open_argument : goal.returns-clause-open_argument
returns-clause-open_argument c = open-argument

pub returns-clause-closed_argument : goal.returns-clause-closed_argument
returns-clause-closed_argument c = closed-argument

pub returns-clause-own_alternative : goal.returns-clause-own_alternative
returns-clause-own_alternative c = own-alternative
