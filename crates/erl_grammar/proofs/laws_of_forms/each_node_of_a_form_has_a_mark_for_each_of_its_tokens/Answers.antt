use Rattle.erl_grammar.proofs.FormMarkLaws.{export_marks, record_field_marks, record_marks, type_definition_marks, spec_clause_marks, spec_marks, skipped_marks, function_clause_marks, function_marks, module_marks}
use Rattle.erl_grammar.proofs.laws_of_forms.each_node_of_a_form_has_a_mark_for_each_of_its_tokens.Goals as goal

pub returns-clause-export : goal.returns-clause-export
returns-clause-export c e h = export_marks h

pub returns-clause-record_field : goal.returns-clause-record_field
returns-clause-record_field c f h = record_field_marks h

pub returns-clause-record_definition : goal.returns-clause-record_definition
returns-clause-record_definition c r h = record_marks h

pub returns-clause-type_definition : goal.returns-clause-type_definition
returns-clause-type_definition c d h = type_definition_marks h

pub returns-clause-spec_clause : goal.returns-clause-spec_clause
returns-clause-spec_clause c d h = spec_clause_marks h

pub returns-clause-spec : goal.returns-clause-spec
returns-clause-spec c s h = spec_marks h

pub returns-clause-skipped : goal.returns-clause-skipped
returns-clause-skipped c s h = skipped_marks h

pub returns-clause-function_clause : goal.returns-clause-function_clause
returns-clause-function_clause c name d h = function_clause_marks name h

pub returns-clause-function : goal.returns-clause-function
returns-clause-function c f h = function_marks h

pub returns-clause-module : goal.returns-clause-module
returns-clause-module c m h = module_marks h
