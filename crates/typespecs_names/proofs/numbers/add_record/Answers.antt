use Rattle.std.proofs.Common.{◌∙◌, ◌∷◌, [], List, ℕ, ap, sym, subst}
use Rattle.std.specs.Prelude.{IfOk}
use Rattle.erl_tree.specs.declared.form.RecDefKind.{RecDefKind}
use Rattle.erl_tree.specs.Functions.{FunctionId}
use Rattle.typespecs_names.specs.Numbers.{IsAdded, record_id, record_ids}
use Rattle.typespecs_names.proofs.Counted.{nothing_added}
use Rattle.typespecs_names.proofs.Known.{not_record}
use Rattle.typespecs_names.proofs.numbers.add_record.Goals as goal

pub returns-in-RecDef : goal.returns-in-RecDef
returns-in-RecDef c =
    subst (λ (fs : List FunctionId). IfOk c.add.result (λ (next : ℕ). IsAdded c.args.table.now c.args.number fs next c.add.new.table))
    (ap (λ (k : RecDefKind). record_id k ∷ []) c.get.ensures ∙ sym (ap record_ids c.in-RecDef.is))
    c.add.ensures

pub returns-in_default : goal.returns-in_default
returns-in_default c = nothing_added c.args.table.now c.args.number _ (not_record c.args.form.now c.in_default.not-RecDef)
