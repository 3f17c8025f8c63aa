use Rattle.erl_grammar.proofs.FormPlaceLaws.{export_begins, record_field_begins, record_begins, type_definition_begins, spec_clause_begins, spec_begins, skipped_begins, function_clause_begins, function_begins}
use Rattle.erl_grammar.proofs.laws_of_forms.each_node_of_a_form_begins_at_its_place.Goals as goal

pub returns-clause-export : goal.returns-clause-export
returns-clause-export c e h = export_begins h

pub returns-clause-record_field : goal.returns-clause-record_field
returns-clause-record_field c f h = record_field_begins h

pub returns-clause-record_definition : goal.returns-clause-record_definition
returns-clause-record_definition c r h = record_begins h

pub returns-clause-type_definition : goal.returns-clause-type_definition
returns-clause-type_definition c d h = type_definition_begins h

pub returns-clause-spec_clause : goal.returns-clause-spec_clause
returns-clause-spec_clause c d h = spec_clause_begins h

pub returns-clause-spec : goal.returns-clause-spec
returns-clause-spec c s h = spec_begins h

pub returns-clause-skipped : goal.returns-clause-skipped
returns-clause-skipped c s h = skipped_begins h

pub returns-clause-function_clause : goal.returns-clause-function_clause
returns-clause-function_clause c name d h = function_clause_begins name h

pub returns-clause-function : goal.returns-clause-function
returns-clause-function c f h = function_begins h
