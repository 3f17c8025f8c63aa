use Rattle.typespecs_rules.specs.TypeParts.{types_within}
use Rattle.typespecs_names.specs.Seen.{seen, inside_part, inside_field}
use Rattle.typespecs_names.proofs.Within.{IsSeenTo}
use Rattle.typespecs_names.proofs.parts.+within.Given as goal

abbrev pub invariant-add_each-loop-one : goal.invariant-add_each-loop-one
invariant-add_each-loop-one l = IsSeenTo types_within l.types (seen l.initial.list.items) l.one-index (seen l.list.items)

abbrev pub invariant-add_fields-loop-field : goal.invariant-add_fields-loop-field
invariant-add_fields-loop-field l = IsSeenTo inside_field l.fields (seen l.initial.list.items) l.field-index (seen l.list.items)

abbrev pub invariant-add_parts-loop-part : goal.invariant-add_parts-loop-part
invariant-add_parts-loop-part l = IsSeenTo inside_part l.parts (seen l.initial.list.items) l.part-index (seen l.list.items)
