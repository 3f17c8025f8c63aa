use Rattle.std.proofs.Common.{◌++◌, ap, ◌∙◌, arith}
use Rattle.erl_tree.specs.declared.type_expr.MapPart.{out-MapPart}
use Rattle.typespecs_rules.specs.TypeParts.{from_each, types_within, inside_map_part_kind}
use Rattle.typespecs_rules.proofs.TypeRuleLaws.{inside-Or, inside-Paren, inside-Named, inside-ListOf, inside-NonEmpty, inside-Use, inside-Tuple, inside-Map, inside-Fun, inside-Rec}
use Rattle.typespecs_names.specs.Seen.{seen, inside_part, inside_field}
use Rattle.typespecs_names.proofs.Steps.{on_ok}
use Rattle.typespecs_names.proofs.Within.{with_one, then_more, of_kind, in_others, nothing_more, in_part, seen_next, seen_last}
use Rattle.typespecs_names.proofs.parts.+within.Goals as goal

pub add_each-loop-one-preserved : goal.add_each-loop-one-preserved
add_each-loop-one-preserved t c =
    seen_next types_within c.args.types.now (seen c.args.list.now.items) c.loop-one.one-index c.one-item.result (seen c.loop-one.list.items) (seen c.add_inside.new.list.items) c.loop-one-test.true c.one-item.is
    (with_one (seen c.loop-one.list.items) (seen c.note.new.list.items) (seen c.add_inside.new.list.items) c.one-item.result c.get.result.now c.in_ok-note.ensures c.get.ensures c.in_ok-add_inside.ensures)
    c.loop-one.invariant

pub add_each-returns : goal.add_each-returns
add_each-returns t c = seen_last types_within c.args.types.now (seen c.args.list.now.items) c.loop-one.one-index (seen c.loop-one.list.items) (omega arith) c.loop-one.invariant

pub add_fields-loop-field-preserved : goal.add_fields-loop-field-preserved
add_fields-loop-field-preserved t c =
    seen_next inside_field c.args.fields.now (seen c.args.list.now.items) c.loop-field.field-index c.field-item.result (seen c.loop-field.list.items) (seen c.add_inside.new.list.items) c.loop-field-test.true c.field-item.is
    (with_one (seen c.loop-field.list.items) (seen c.note.new.list.items) (seen c.add_inside.new.list.items) c.get.result.now.1 c.get-in-loop-field.result.now c.in_ok-note.ensures c.get-in-loop-field.ensures c.in_ok-add_inside.ensures
    ∙ ap (λ f. seen c.loop-field.list.items ++ types_within f.1) c.get.ensures)
    c.loop-field.invariant

pub add_fields-returns : goal.add_fields-returns
add_fields-returns t c = seen_last inside_field c.args.fields.now (seen c.args.list.now.items) c.loop-field.field-index (seen c.loop-field.list.items) (omega arith) c.loop-field.invariant

pub add_parts-loop-part-preserved : goal.add_parts-loop-part-preserved
add_parts-loop-part-preserved t c =
    seen_next inside_part c.args.parts.now (seen c.args.list.now.items) c.loop-part.part-index c.part-item.result (seen c.loop-part.list.items) (seen c.add_inside-in-loop-part.new.list.items) c.loop-part-test.true c.part-item.is
    (then_more (seen c.loop-part.list.items) (seen c.add_inside.new.list.items) (seen c.add_inside-in-loop-part.new.list.items) (types_within (out-MapPart c.get-part.result.now).key) (types_within (out-MapPart c.get-part.result.now).value)
    (with_one (seen c.loop-part.list.items) (seen c.note.new.list.items) (seen c.add_inside.new.list.items) (out-MapPart c.get-part.result.now).key c.get.result.now c.in_ok-note.ensures c.get.ensures c.in_ok-add_inside.ensures)
    (with_one (seen c.add_inside.new.list.items) (seen c.note-in-loop-part.new.list.items) (seen c.add_inside-in-loop-part.new.list.items) (out-MapPart c.get-part.result.now).value c.get-in-loop-part.result.now c.in_ok-note-2.ensures c.get-in-loop-part.ensures c.in_ok-add_inside-2.ensures)
    ∙ ap (λ l. seen c.loop-part.list.items ++ l) (in_part c.get-part.result.now ∙ ap (λ k. inside_map_part_kind k) c.get-part.ensures))
    c.loop-part.invariant

pub add_parts-returns : goal.add_parts-returns
add_parts-returns t c = seen_last inside_part c.args.parts.now (seen c.args.list.now.items) c.loop-part.part-index (seen c.loop-part.list.items) (omega arith) c.loop-part.invariant

pub add_inside-returns-in_ok-note-in-Or-2 : goal.add_inside-returns-in_ok-note-in-Or-2
add_inside-returns-in_ok-note-in-Or-2 t c =
    on_ok c.add_inside-in-Or.result _ _
    (λ h. of_kind (seen c.args.list.now.items) (seen c.add_inside-in-Or.new.list.items) (types_within c.in-Or.left ++ types_within c.in-Or.right) c.args.kind.now _ c.in-Or.is (inside-Or c.in-Or.left c.in-Or.right)
    (then_more (seen c.args.list.now.items) (seen c.add_inside.new.list.items) (seen c.add_inside-in-Or.new.list.items) (types_within c.in-Or.left) (types_within c.in-Or.right)
    (with_one (seen c.args.list.now.items) (seen c.note.new.list.items) (seen c.add_inside.new.list.items) c.in-Or.left c.get.result.now c.in_ok-note-in-Or.ensures c.get.ensures c.in_ok-add_inside-in-Or.ensures)
    (with_one (seen c.add_inside.new.list.items) (seen c.note-in-Or.new.list.items) (seen c.add_inside-in-Or.new.list.items) c.in-Or.right c.get-in-Or.result.now c.in_ok-note-in-Or-2.ensures c.get-in-Or.ensures h)))
    c.add_inside-in-Or.ensures

pub add_inside-returns-in_ok-note-in-Paren : goal.add_inside-returns-in_ok-note-in-Paren
add_inside-returns-in_ok-note-in-Paren t c =
    on_ok c.add_inside-in-Paren.result _ _
    (λ h. of_kind (seen c.args.list.now.items) (seen c.add_inside-in-Paren.new.list.items) (types_within c.in-Paren.inner) c.args.kind.now _ c.in-Paren.is (inside-Paren c.in-Paren.inner)
    (with_one (seen c.args.list.now.items) (seen c.note-in-Paren.new.list.items) (seen c.add_inside-in-Paren.new.list.items) c.in-Paren.inner c.get-in-Paren.result.now c.in_ok-note-in-Paren.ensures c.get-in-Paren.ensures h))
    c.add_inside-in-Paren.ensures

pub add_inside-returns-in_ok-note-in-Named : goal.add_inside-returns-in_ok-note-in-Named
add_inside-returns-in_ok-note-in-Named t c =
    on_ok c.add_inside-in-Named.result _ _
    (λ h. of_kind (seen c.args.list.now.items) (seen c.add_inside-in-Named.new.list.items) (types_within c.in-Named.inner) c.args.kind.now _ c.in-Named.is (inside-Named _ c.in-Named.inner)
    (with_one (seen c.args.list.now.items) (seen c.note-in-Named.new.list.items) (seen c.add_inside-in-Named.new.list.items) c.in-Named.inner c.get-in-Named.result.now c.in_ok-note-in-Named.ensures c.get-in-Named.ensures h))
    c.add_inside-in-Named.ensures

pub add_inside-returns-in_ok-note-in-ListOf : goal.add_inside-returns-in_ok-note-in-ListOf
add_inside-returns-in_ok-note-in-ListOf t c =
    on_ok c.add_inside-in-ListOf.result _ _
    (λ h. of_kind (seen c.args.list.now.items) (seen c.add_inside-in-ListOf.new.list.items) (types_within c.in-ListOf.inner) c.args.kind.now _ c.in-ListOf.is (inside-ListOf c.in-ListOf.inner)
    (with_one (seen c.args.list.now.items) (seen c.note-in-ListOf.new.list.items) (seen c.add_inside-in-ListOf.new.list.items) c.in-ListOf.inner c.get-in-ListOf.result.now c.in_ok-note-in-ListOf.ensures c.get-in-ListOf.ensures h))
    c.add_inside-in-ListOf.ensures

pub add_inside-returns-in_ok-note-in-NonEmpty : goal.add_inside-returns-in_ok-note-in-NonEmpty
add_inside-returns-in_ok-note-in-NonEmpty t c =
    on_ok c.add_inside-in-NonEmpty.result _ _
    (λ h. of_kind (seen c.args.list.now.items) (seen c.add_inside-in-NonEmpty.new.list.items) (types_within c.in-NonEmpty.inner) c.args.kind.now _ c.in-NonEmpty.is (inside-NonEmpty c.in-NonEmpty.inner)
    (with_one (seen c.args.list.now.items) (seen c.note-in-NonEmpty.new.list.items) (seen c.add_inside-in-NonEmpty.new.list.items) c.in-NonEmpty.inner c.get-in-NonEmpty.result.now c.in_ok-note-in-NonEmpty.ensures c.get-in-NonEmpty.ensures h))
    c.add_inside-in-NonEmpty.ensures

pub add_inside-returns-in-Use : goal.add_inside-returns-in-Use
add_inside-returns-in-Use t c =
    on_ok c.add_each.result _ _
    (λ h. of_kind (seen c.args.list.now.items) (seen c.add_each.new.list.items) (from_each types_within c.in-Use.args) c.args.kind.now _ c.in-Use.is (inside-Use c.in-Use.prefix c.in-Use.name c.in-Use.args)
    (h ∙ ap (λ xs. seen c.args.list.now.items ++ from_each types_within xs) c.as_slice.ensures))
    c.add_each.ensures

pub add_inside-returns-in-Tuple : goal.add_inside-returns-in-Tuple
add_inside-returns-in-Tuple t c =
    on_ok c.add_each-in-Tuple.result _ _
    (λ h. of_kind (seen c.args.list.now.items) (seen c.add_each-in-Tuple.new.list.items) (from_each types_within c.in-Tuple.elements) c.args.kind.now _ c.in-Tuple.is (inside-Tuple c.in-Tuple.elements)
    (h ∙ ap (λ xs. seen c.args.list.now.items ++ from_each types_within xs) c.as_slice-in-Tuple.ensures))
    c.add_each-in-Tuple.ensures

pub add_inside-returns-in-Map : goal.add_inside-returns-in-Map
add_inside-returns-in-Map t c =
    on_ok c.add_parts.result _ _
    (λ h. of_kind (seen c.args.list.now.items) (seen c.add_parts.new.list.items) (from_each inside_part c.in-Map.parts) c.args.kind.now _ c.in-Map.is (inside-Map c.in-Map.parts)
    (h ∙ ap (λ xs. seen c.args.list.now.items ++ from_each inside_part xs) c.as_slice-in-Map.ensures))
    c.add_parts.ensures

pub add_inside-returns-in-Rec : goal.add_inside-returns-in-Rec
add_inside-returns-in-Rec t c =
    on_ok c.add_fields.result _ _
    (λ h. of_kind (seen c.args.list.now.items) (seen c.add_fields.new.list.items) (from_each inside_field c.in-Rec.fields) c.args.kind.now _ c.in-Rec.is (inside-Rec c.in-Rec.name c.in-Rec.tag c.in-Rec.fields)
    (h ∙ ap (λ xs. seen c.args.list.now.items ++ from_each inside_field xs) c.as_slice-in-Rec.ensures))
    c.add_fields.ensures

pub add_inside-returns-in_ok-note-in-Fun : goal.add_inside-returns-in_ok-note-in-Fun
add_inside-returns-in_ok-note-in-Fun t c =
    on_ok c.add_inside-in-Fun.result _ _
    (λ h. of_kind (seen c.args.list.now.items) (seen c.add_inside-in-Fun.new.list.items) (from_each types_within c.in-Fun.params ++ types_within c.in-Fun.result) c.args.kind.now _ c.in-Fun.is (inside-Fun c.in-Fun.params c.in-Fun.result)
    (then_more (seen c.args.list.now.items) (seen c.add_each-in-Fun.new.list.items) (seen c.add_inside-in-Fun.new.list.items) (from_each types_within c.in-Fun.params) (types_within c.in-Fun.result)
    (c.in_ok-add_each-in-Fun.ensures ∙ ap (λ xs. seen c.args.list.now.items ++ from_each types_within xs) c.as_slice-in-Fun.ensures)
    (with_one (seen c.add_each-in-Fun.new.list.items) (seen c.note-in-Fun.new.list.items) (seen c.add_inside-in-Fun.new.list.items) c.in-Fun.result c.get-in-Fun.result.now c.in_ok-note-in-Fun.ensures c.get-in-Fun.ensures h)))
    c.add_inside-in-Fun.ensures

pub add_inside-returns-in_default : goal.add_inside-returns-in_default
add_inside-returns-in_default t c =
    nothing_more (seen c.args.list.now.items) c.args.kind.now
    (in_others c.args.kind.now c.in_default.not-Or c.in_default.not-Paren c.in_default.not-Named c.in_default.not-ListOf c.in_default.not-NonEmpty c.in_default.not-Use c.in_default.not-Tuple c.in_default.not-Map c.in_default.not-Fun c.in_default.not-Rec)
