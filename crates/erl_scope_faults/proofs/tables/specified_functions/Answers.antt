use Rattle.std.proofs.Common.{◌∙◌, ◌∷◌, [], refl, ap, sym}
use Rattle.std.specs.List.{list_any}
use Rattle.erl_tree.specs.Functions.{of_function, spec_clauses_arity}
use Rattle.erl_runs.specs.Names.{same_id}
use Rattle.name_table.specs.Table.{ids}
use Rattle.erl_scope_rules.specs.ScopeFaults.{specified_by, specified_in}
use Rattle.erl_scope_faults.proofs.TableLaws.{gathered_next, adds_one, adds_none, not_specified}
use Rattle.erl_scope_faults.proofs.tables.specified_functions.Goals as goal
use Rattle.erl_scope_faults.proofs.tables.specified_functions.Goals.{in-Spec+in_ok-insert, in_default}

pub loop-form-preserved : goal.loop-form-preserved
loop-form-preserved c =
    gathered_next specified_by specified_in refl (λ form forms. refl) c.args.forms.now c.loop-form.form-index c.form-item.result (ids c.loop-form.table) (ids c.match-form.table) c.loop-form-test.true c.form-item.is
    (elim c.match-form.branch [
      | in-Spec+in_ok-insert w ↦ λ id. ap (λ t. list_any (same_id id) (ids t)) w.table-is
          ∙ adds_one w.in_ok-insert.field-0 c.loop-form.table (of_function w.get-kind.result.now.name w.arity.result) 0 w.insert.new.self (specified_by c.form-item.result)
          (ap specified_by w.in-Spec.is ∙ (ap (λ k. of_function k.name (spec_clauses_arity k.clauses) ∷ []) (sym w.get-kind.ensures) ∙ ap (λ n. of_function w.get-kind.result.now.name n ∷ []) (sym w.arity.ensures)))
          w.in_ok-insert.ensures.inserted id
      | in_default w ↦ λ id. ap (λ t. list_any (same_id id) (ids t)) w.table-is ∙ adds_none (ids c.loop-form.table) (specified_by c.form-item.result) (not_specified c.form-item.result w.in_default.not-Spec) id
    ])
    c.loop-form.invariant
