use Rattle.std.proofs.Common.{◌∙◌, ◌∷◌, [], List, ℕ, ap, sym, subst}
use Rattle.std.specs.Prelude.{IfOk}
use Rattle.erl_tree.specs.declared.form.TypeDefKind.{TypeDefKind}
use Rattle.erl_tree.specs.Functions.{FunctionId, of_function}
use Rattle.typespecs_names.specs.Numbers.{IsAdded, type_id, type_ids}
use Rattle.typespecs_names.proofs.Counted.{nothing_added}
use Rattle.typespecs_names.proofs.Known.{not_type}
use Rattle.typespecs_names.proofs.numbers.add_type.Goals as goal

pub returns-in-TypeDef : goal.returns-in-TypeDef
returns-in-TypeDef c =
    subst (λ (fs : List FunctionId). IfOk c.add.result (λ (next : ℕ). IsAdded c.args.table.now c.args.number fs next c.add.new.table))
    (ap (λ n. of_function c.get-kind.result.now.name n ∷ []) c.len.ensures ∙ (ap (λ (k : TypeDefKind). type_id k ∷ []) c.get-kind.ensures ∙ sym (ap type_ids c.in-TypeDef.is)))
    c.add.ensures

pub returns-in_default : goal.returns-in_default
returns-in_default c = nothing_added c.args.table.now c.args.number _ (not_type c.args.form.now c.in_default.not-TypeDef)
