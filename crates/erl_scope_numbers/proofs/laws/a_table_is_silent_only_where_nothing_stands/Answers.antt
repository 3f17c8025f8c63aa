use Rattle.erl_scope_numbers.proofs.StandingNumbers.{no_number_in_table, binding_in_table, no_place_in_table}
use Rattle.erl_scope_numbers.proofs.laws.a_table_is_silent_only_where_nothing_stands.Goals as goal

pub returns-clause-numbers : goal.returns-clause-numbers
returns-clause-numbers c = no_number_in_table

pub returns-clause-place : goal.returns-clause-place
returns-clause-place c = binding_in_table

pub returns-clause-none : goal.returns-clause-none
returns-clause-none c = no_place_in_table
