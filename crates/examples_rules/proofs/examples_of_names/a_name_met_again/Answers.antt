use Rattle.examples_rules.proofs.ScopeExamples.{a_name_met_again-first_of_a_row, a_name_met_again-second_of_a_row, a_name_met_again-behind_a_row, a_name_met_again-no_fault_in_a_row, a_name_met_again-class, a_name_met_again-pattern_behind_a_class, a_name_met_again-behind_class_and_pattern, a_name_met_again-no_fault_in_a_class, a_name_met_again-in_a_match, a_name_met_again-behind_a_match, a_name_met_again-no_fault_in_a_match}
use Rattle.examples_rules.proofs.examples_of_names.a_name_met_again.Goals as goal

pub returns-clause-first_of_a_row : goal.returns-clause-first_of_a_row
returns-clause-first_of_a_row c = a_name_met_again-first_of_a_row

pub returns-clause-second_of_a_row : goal.returns-clause-second_of_a_row
returns-clause-second_of_a_row c = a_name_met_again-second_of_a_row

pub returns-clause-behind_a_row : goal.returns-clause-behind_a_row
returns-clause-behind_a_row c = a_name_met_again-behind_a_row

pub returns-clause-no_fault_in_a_row : goal.returns-clause-no_fault_in_a_row
returns-clause-no_fault_in_a_row c = a_name_met_again-no_fault_in_a_row

pub returns-clause-class : goal.returns-clause-class
returns-clause-class c = a_name_met_again-class

pub returns-clause-pattern_behind_a_class : goal.returns-clause-pattern_behind_a_class
returns-clause-pattern_behind_a_class c = a_name_met_again-pattern_behind_a_class

pub returns-clause-behind_class_and_pattern : goal.returns-clause-behind_class_and_pattern
returns-clause-behind_class_and_pattern c = a_name_met_again-behind_class_and_pattern

pub returns-clause-no_fault_in_a_class : goal.returns-clause-no_fault_in_a_class
returns-clause-no_fault_in_a_class c = a_name_met_again-no_fault_in_a_class

pub returns-clause-in_a_match : goal.returns-clause-in_a_match
returns-clause-in_a_match c = a_name_met_again-in_a_match

pub returns-clause-behind_a_match : goal.returns-clause-behind_a_match
returns-clause-behind_a_match c = a_name_met_again-behind_a_match

pub returns-clause-no_fault_in_a_match : goal.returns-clause-no_fault_in_a_match
returns-clause-no_fault_in_a_match c = a_name_met_again-no_fault_in_a_match
