use Rattle.std.proofs.Common.{◌≡◌, take}
use Rattle.type_terms.specs.Undefined.{undefined_in_terms, undefined_in_fields}
use Rattle.type_terms.proofs.names.+undefined.Given as goal

abbrev pub invariant-undefined_in_terms-loop-term : goal.invariant-undefined_in_terms-loop-term
invariant-undefined_in_terms-loop-term l = l.found ≡ undefined_in_terms l.defs (take l.term-index l.terms)

abbrev pub invariant-undefined_in_fields-loop-field : goal.invariant-undefined_in_fields-loop-field
invariant-undefined_in_fields-loop-field l = l.found ≡ undefined_in_fields l.defs (take l.field-index l.fields)
