use Rattle.typespecs_rules.proofs.TypeExamples.{map_types-fields_and_rests, map_types-right, map_types-in_parentheses, map_types-required_rest, map_types-one_key_twice, map_types-zero_twice, map_types-rest_twice, map_types-out_of_profile_as_a_key, map_types-unknown_as_a_key}
use Rattle.typespecs_rules.proofs.examples.map_types.Goals as goal

pub returns-clause-fields_and_rests : goal.returns-clause-fields_and_rests
returns-clause-fields_and_rests c = map_types-fields_and_rests

pub returns-clause-right : goal.returns-clause-right
returns-clause-right c = map_types-right

pub returns-clause-in_parentheses : goal.returns-clause-in_parentheses
returns-clause-in_parentheses c = map_types-in_parentheses

pub returns-clause-required_rest : goal.returns-clause-required_rest
returns-clause-required_rest c = map_types-required_rest

pub returns-clause-one_key_twice : goal.returns-clause-one_key_twice
returns-clause-one_key_twice c = map_types-one_key_twice

pub returns-clause-zero_twice : goal.returns-clause-zero_twice
returns-clause-zero_twice c = map_types-zero_twice

pub returns-clause-rest_twice : goal.returns-clause-rest_twice
returns-clause-rest_twice c = map_types-rest_twice

pub returns-clause-out_of_profile_as_a_key : goal.returns-clause-out_of_profile_as_a_key
returns-clause-out_of_profile_as_a_key c = map_types-out_of_profile_as_a_key

pub returns-clause-unknown_as_a_key : goal.returns-clause-unknown_as_a_key
returns-clause-unknown_as_a_key c = map_types-unknown_as_a_key
