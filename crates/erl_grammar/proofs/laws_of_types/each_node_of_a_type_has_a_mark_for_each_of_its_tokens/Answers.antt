use Rattle.erl_grammar.proofs.TypeMarkLaws.{type_marks, parameter_marks, range_end_marks, map_part_marks, field_type_marks}
use Rattle.erl_grammar.proofs.laws_of_types.each_node_of_a_type_has_a_mark_for_each_of_its_tokens.Goals as goal

pub returns-clause-type_expression : goal.returns-clause-type_expression
returns-clause-type_expression c t h = type_marks h

pub returns-clause-parameter : goal.returns-clause-parameter
returns-clause-parameter c t h = parameter_marks h

pub returns-clause-range_end : goal.returns-clause-range_end
returns-clause-range_end c k h = range_end_marks h

pub returns-clause-map_part : goal.returns-clause-map_part
returns-clause-map_part c part h = map_part_marks h

pub returns-clause-field_type : goal.returns-clause-field_type
returns-clause-field_type c f h = field_type_marks h
