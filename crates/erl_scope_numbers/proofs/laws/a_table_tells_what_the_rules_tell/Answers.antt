use Rattle.erl_scope_numbers.proofs.OfModules.{number_of-variable_number, place_of-binding_place}
use Rattle.erl_scope_numbers.proofs.laws.a_table_tells_what_the_rules_tell.Goals as goal

pub returns-clause-numbers : goal.returns-clause-numbers
returns-clause-numbers c = number_of-variable_number

pub returns-clause-places : goal.returns-clause-places
returns-clause-places c = place_of-binding_place
