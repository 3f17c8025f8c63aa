use Rattle.std.proofs.Common.{take}
use Rattle.type_terms.specs.declared.sign_search.Sought.TheVariants.{Variable}
use Rattle.type_terms.specs.SignTables.{AddsSigns, signs_in_terms, signs_in_fields, signs_through}
use Rattle.type_terms.proofs.parameter_signs.+variables.Given as goal

abbrev pub invariant-add_in_terms-loop-term : goal.invariant-add_in_terms-loop-term
invariant-add_in_terms-loop-term l = AddsSigns l.around (λ i. signs_in_terms l.table (Variable i) (take l.term-index l.terms)) l.initial.found l.found

abbrev pub invariant-add_in_fields-loop-field : goal.invariant-add_in_fields-loop-field
invariant-add_in_fields-loop-field l = AddsSigns l.around (λ i. signs_in_fields l.table (Variable i) (take l.field-index l.fields)) l.initial.found l.found

abbrev pub invariant-add_in_arguments-loop-at : goal.invariant-add_in_arguments-loop-at
invariant-add_in_arguments-loop-at l = AddsSigns l.around (λ i. signs_through l.table (Variable i) l.number 0 (take l.at l.arguments)) l.initial.found l.found
