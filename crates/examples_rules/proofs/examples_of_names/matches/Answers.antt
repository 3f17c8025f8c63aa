use Rattle.examples_rules.proofs.ScopeExamples.{matches-in_itself, matches-pattern, matches-expression, matches-behind, matches-no_fault}
use Rattle.examples_rules.proofs.examples_of_names.matches.Goals as goal

pub returns-clause-in_itself : goal.returns-clause-in_itself
returns-clause-in_itself c = matches-in_itself

pub returns-clause-pattern : goal.returns-clause-pattern
returns-clause-pattern c = matches-pattern

pub returns-clause-expression : goal.returns-clause-expression
returns-clause-expression c = matches-expression

pub returns-clause-behind : goal.returns-clause-behind
returns-clause-behind c = matches-behind

pub returns-clause-no_fault : goal.returns-clause-no_fault
returns-clause-no_fault c = matches-no_fault
