use Rattle.std.proofs.Common.{◌≡◌, take}
use Rattle.type_terms.specs.SignTables.{signs_in_terms, signs_in_fields, signs_through}
use Rattle.type_terms.proofs.sign_search.+signs.Given as goal

abbrev pub invariant-signs_in_terms-loop-term : goal.invariant-signs_in_terms-loop-term
invariant-signs_in_terms-loop-term l = l.found ≡ signs_in_terms l.table l.sought (take l.term-index l.terms)

abbrev pub invariant-signs_in_fields-loop-field : goal.invariant-signs_in_fields-loop-field
invariant-signs_in_fields-loop-field l = l.found ≡ signs_in_fields l.table l.sought (take l.field-index l.fields)

abbrev pub invariant-signs_in_arguments-loop-at : goal.invariant-signs_in_arguments-loop-at
invariant-signs_in_arguments-loop-at l = l.found ≡ signs_through l.table l.sought l.number 0 (take l.at l.arguments)
