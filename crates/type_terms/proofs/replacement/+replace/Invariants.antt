use Rattle.std.proofs.Common.{◌≡◌, take, map}
use Rattle.type_terms.specs.Replacement.{argument_of, field_replaced, replaced}
use Rattle.type_terms.proofs.replacement.+replace.Given as goal

abbrev pub invariant-replace_terms-loop-term : goal.invariant-replace_terms-loop-term
invariant-replace_terms-loop-term l = l.made ≡ map (replaced (argument_of l.by)) (take l.term-index l.terms)

abbrev pub invariant-replace_fields-loop-field : goal.invariant-replace_fields-loop-field
invariant-replace_fields-loop-field l = l.made ≡ map (field_replaced (argument_of l.by)) (take l.field-index l.fields)
