use Rattle.examples_rules.proofs.TableExamples.{variables_found, table_of_four, table_with_a_place, no_table_with_a_number, no_table_with_another, no_table_of_one_binding}
use Rattle.examples_rules.proofs.examples_of_tables.a_table_of_four_variables.Goals as goal

pub returns-clause-variables : goal.returns-clause-variables
returns-clause-variables c = variables_found

pub returns-clause-table : goal.returns-clause-table
returns-clause-table c = table_of_four

pub returns-clause-listed_without_number : goal.returns-clause-listed_without_number
returns-clause-listed_without_number c = table_with_a_place

pub returns-clause-listed_with_number : goal.returns-clause-listed_with_number
returns-clause-listed_with_number c = no_table_with_a_number

pub returns-clause-another_number : goal.returns-clause-another_number
returns-clause-another_number c = no_table_with_another

pub returns-clause-binding_left_out : goal.returns-clause-binding_left_out
returns-clause-binding_left_out c = no_table_of_one_binding
