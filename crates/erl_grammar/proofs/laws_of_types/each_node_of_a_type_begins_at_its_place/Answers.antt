use Rattle.erl_grammar.proofs.TypePlaceLaws.{type_begins, parameter_begins, range_end_begins, map_part_begins, field_type_begins}
use Rattle.erl_grammar.proofs.laws_of_types.each_node_of_a_type_begins_at_its_place.Goals as goal

pub returns-clause-type_expression : goal.returns-clause-type_expression
returns-clause-type_expression c t h = type_begins h

pub returns-clause-parameter : goal.returns-clause-parameter
returns-clause-parameter c t h = parameter_begins h

pub returns-clause-range_end : goal.returns-clause-range_end
returns-clause-range_end c k h = range_end_begins h

pub returns-clause-map_part : goal.returns-clause-map_part
returns-clause-map_part c part h = map_part_begins h

pub returns-clause-field_type : goal.returns-clause-field_type
returns-clause-field_type c f h = field_type_begins h
