use Rattle.examples_rules.proofs.ScopeExamples.{faults_that_are_not_first-second_variable, faults_that_are_not_first-variable_behind_a_call, faults_that_are_not_first-second_at_one_place, faults_that_are_not_first-earlier_than_all, faults_that_are_not_first-of_another_kind}
use Rattle.examples_rules.proofs.examples_of_names.faults_that_are_not_first.Goals as goal

pub returns-clause-second_variable : goal.returns-clause-second_variable
returns-clause-second_variable c = faults_that_are_not_first-second_variable

pub returns-clause-variable_behind_a_call : goal.returns-clause-variable_behind_a_call
returns-clause-variable_behind_a_call c = faults_that_are_not_first-variable_behind_a_call

pub returns-clause-second_at_one_place : goal.returns-clause-second_at_one_place
returns-clause-second_at_one_place c = faults_that_are_not_first-second_at_one_place

pub returns-clause-earlier_than_all : goal.returns-clause-earlier_than_all
returns-clause-earlier_than_all c = faults_that_are_not_first-earlier_than_all

pub returns-clause-of_another_kind : goal.returns-clause-of_another_kind
returns-clause-of_another_kind c = faults_that_are_not_first-of_another_kind
