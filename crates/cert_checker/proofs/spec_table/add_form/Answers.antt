use Rattle.std.proofs.Common.{◌≡◌, sym, ◌∙◌, ap, subst}
use Rattle.erl_tree.specs.declared.form.SpecKind.{SpecKind}
use Rattle.erl_tree.specs.declared.form.TreeForm.{TreeForm}
use Rattle.erl_tree.specs.Functions.{FunctionId, of_function, spec_clauses_arity}
use Rattle.name_table.specs.Table.{IsInsertion}
use Rattle.erl_runs.specs.Specs.{specified_id}
use Rattle.cert_checker.specs.SpecTables.{Adds}
use Rattle.cert_checker.proofs.Tables.{insertion-adds}
use Rattle.cert_checker.proofs.spec_table.add_form.Goals as goal

pub returns-in_ok-insert : goal.returns-in_ok-insert
returns-in_ok-insert c =
    let q : of_function c.get-spec.result.now.name c.arity.result ≡ specified_id c.in-Spec.spec =
    ap (of_function c.get-spec.result.now.name) c.arity.ensures ∙ ap (λ (z : SpecKind). of_function z.name (spec_clauses_arity z.clauses)) c.get-spec.ensures in
    let h : IsInsertion c.in_ok-insert.field-0 c.args.table.now (specified_id c.in-Spec.spec) c.args.at c.insert.new.self =
    subst (λ (z : FunctionId). IsInsertion c.in_ok-insert.field-0 c.args.table.now z c.args.at c.insert.new.self) q c.in_ok-insert.ensures.inserted in
    subst (λ (z : TreeForm). Adds z c.args.at c.args.table.now c.insert.new.self) (sym c.in-Spec.is) (insertion-adds c.in_ok-insert.field-0 c.args.table.now c.insert.new.self c.in-Spec.spec c.args.at h)
