use Rattle.std.proofs.Common.{◌∙◌, ◌||◌, not, length, List, ap, refl}
use Rattle.std.specs.List.{list_any}
use Rattle.type_terms.specs.Keys.{Name}
use Rattle.erl_tree.specs.declared.form.TypeDefKind.{TypeDefKind}
use Rattle.erl_tree.specs.Functions.{FunctionId, of_function}
use Rattle.erl_runs.specs.Names.{same_id}
use Rattle.name_table.specs.Table.{ids}
use Rattle.typespecs_rules.specs.declared.fault.TypeFault.TheVariants.{Repeated}
use Rattle.typespecs_rules.specs.BuiltInTypes.{is_built_in_name}
use Rattle.typespecs_rules.specs.Declarations.{is_type_named}
use Rattle.typespecs_rules.specs.TypeFaults.{unless, stands_among, type_faults}
use Rattle.typespecs_rules.specs.Earliest.{earliest}
use Rattle.typespecs_faults.specs.NameSets.{has_name}
use Rattle.typespecs_faults.proofs.FormLaws.{type-added}
use Rattle.typespecs_faults.proofs.Insertions.{is_new}
use Rattle.typespecs_faults.proofs.Rows.{on_ok, noted_two}
use Rattle.typespecs_faults.proofs.TypeLaws.{allowed-alike}
use Rattle.typespecs_faults.proofs.forms.check_type_form.Goals as goal

pub returns-clause-noted : goal.returns-clause-noted
returns-clause-noted c =
    let f = of_function c.get-kind.result.now.name c.len.result in
    let named = ap (of_function c.get-kind.result.now.name) c.len.ensures in
    on_ok c.check_type.result _ _
    (λ h b ib d k. noted_two c.args.first.now c.note_unless.new.first c.check_type.new.first (unless (not (is_built_in_name c.args.declaration.now.kind.name || list_any (is_type_named c.args.declaration.now.kind.name (length c.args.declaration.now.kind.params)) b.types)) Repeated c.args.declaration.now.place) (type_faults d (λ x. stands_among x c.args.declaration.now.kind.params) c.args.declaration.now.kind.body)
    (c.note_unless.ensures ∙ ap (λ t. earliest c.args.first.now (unless t Repeated c.args.declaration.now.place))
    (c.is_free-is_free.ensures (list_any (same_id f) (ids c.args.before.now.types)) (is_new c.in_ok-is_new.is_new c.args.before.now.types f 0 c.insert.new.self c.in_ok-is_new.ensures.inserted)
    ∙ (ap (λ t. not (is_built_in_name c.get-kind.result.now.name || t)) (ap (λ (g : FunctionId). list_any (same_id g) (ids c.args.before.now.types)) named ∙ ib.types c.get-kind.result.now.name (length c.get-kind.result.now.params))
    ∙ ap (λ (x : TypeDefKind). not (is_built_in_name x.name || list_any (is_type_named x.name (length x.params)) b.types)) c.get-kind.ensures)))
    (h d k ∙ ap (earliest c.note_unless.new.first)
    (allowed-alike d (has_name c.in_ok-allowed.allowed) (λ x. stands_among x c.get-kind.result.now.params) (λ x. c.in_ok-allowed.ensures x ∙ ap (λ (ps : List Name). stands_among x ps) c.as_slice.ensures) c.get-kind.result.now.body
    ∙ ap (λ (y : TypeDefKind). type_faults d (λ x. stands_among x y.params) y.body) c.get-kind.ensures)))
    c.check_type.ensures

pub returns-clause-added : goal.returns-clause-added
returns-clause-added c =
    on_ok c.check_type.result _ _
    (λ h b ib. type-added c.in_ok-is_new.is_new c.args.before.now _ c.args.declaration.now (of_function c.get-kind.result.now.name c.len.result) 0 b (ap (of_function c.get-kind.result.now.name) c.len.ensures ∙ ap (λ (x : TypeDefKind). of_function x.name (length x.params)) c.get-kind.ensures) c.in_ok-is_new.ensures.inserted refl refl ib)
    c.check_type.ensures
