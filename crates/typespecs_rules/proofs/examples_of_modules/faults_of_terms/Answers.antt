use Rattle.typespecs_rules.proofs.ModuleExamples.{faults_of_terms-negated_variable, faults_of_terms-own_alternative}
use Rattle.typespecs_rules.proofs.examples_of_modules.faults_of_terms.Goals as goal

pub returns-clause-negated_variable : goal.returns-clause-negated_variable
returns-clause-negated_variable c = faults_of_terms-negated_variable

pub returns-clause-own_alternative : goal.returns-clause-own_alternative
returns-clause-own_alternative c = faults_of_terms-own_alternative
