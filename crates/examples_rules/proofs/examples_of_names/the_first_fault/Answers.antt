use Rattle.examples_rules.proofs.ScopeExamples.{the_first_fault-two_variables, the_first_fault-first_variable, the_first_fault-call_and_variable, the_first_fault-first_is_the_call, the_first_fault-at_one_place, the_first_fault-first_at_one_place}
use Rattle.examples_rules.proofs.examples_of_names.the_first_fault.Goals as goal

pub returns-clause-two_variables : goal.returns-clause-two_variables
returns-clause-two_variables c = the_first_fault-two_variables

pub returns-clause-first_variable : goal.returns-clause-first_variable
returns-clause-first_variable c = the_first_fault-first_variable

pub returns-clause-call_and_variable : goal.returns-clause-call_and_variable
returns-clause-call_and_variable c = the_first_fault-call_and_variable

pub returns-clause-first_is_the_call : goal.returns-clause-first_is_the_call
returns-clause-first_is_the_call c = the_first_fault-first_is_the_call

pub returns-clause-at_one_place : goal.returns-clause-at_one_place
returns-clause-at_one_place c = the_first_fault-at_one_place

pub returns-clause-first_at_one_place : goal.returns-clause-first_at_one_place
returns-clause-first_at_one_place c = the_first_fault-first_at_one_place
