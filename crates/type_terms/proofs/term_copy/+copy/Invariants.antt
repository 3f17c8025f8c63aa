use Rattle.std.proofs.Common.{◌≡◌, take}
use Rattle.type_terms.proofs.term_copy.+copy.Given as goal

abbrev pub invariant-copy_terms-loop-term : goal.invariant-copy_terms-loop-term
invariant-copy_terms-loop-term l = l.copied ≡ take l.term-index l.terms

abbrev pub invariant-copy_fields-loop-field : goal.invariant-copy_fields-loop-field
invariant-copy_fields-loop-field l = l.copied ≡ take l.field-index l.fields
