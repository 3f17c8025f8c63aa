use Rattle.type_terms.proofs.ListExamples.{bare-alternative, bare-head, bare-open_argument, bare-other_argument}
use Rattle.type_terms.proofs.examples.bare_parts.Goals as goal

pub returns-clause-alternative : goal.returns-clause-alternative
returns-clause-alternative c = bare-alternative

pub returns-clause-head : goal.returns-clause-head
returns-clause-head c = bare-head

pub returns-clause-open_argument : goal.returns-clause-open_argument
returns-clause-open_argument c = bare-open_argument

pub returns-clause-other_argument : goal.returns-clause-other_argument
returns-clause-other_argument c = bare-other_argument
