use Rattle.std.proofs.Common.{◌∙◌, ◌∷◌, [], refl, ap, sym, subst, arith}
use Rattle.std.specs.List.{list_any}
use Rattle.erl_tree.specs.Functions.{of_function}
use Rattle.erl_runs.specs.Names.{same_id}
use Rattle.name_table.specs.Table.{ids}
use Rattle.erl_scope_rules.specs.ScopeFaults.{defined_by}
use Rattle.erl_scope_faults.specs.Bounds.{AreBounded}
use Rattle.erl_scope_faults.proofs.TableLaws.{gathered_next, all_defined, defined_more, adds_one, adds_none, still_bounded, not_defined}
use Rattle.erl_scope_faults.proofs.tables.defined_functions.Goals as goal
use Rattle.erl_scope_faults.proofs.tables.defined_functions.Goals.{in-Function+in_ok-insert, in_default}

pub loop-form-preserved : goal.loop-form-preserved
loop-form-preserved c = (
  gathered_next defined_by all_defined refl defined_more c.args.forms.now c.loop-form.form-index c.form-item.result (ids c.loop-form.table) (ids c.match-form.table) c.loop-form-test.true c.form-item.is
      (elim c.match-form.branch [
        | in-Function+in_ok-insert w ↦ λ id. ap (λ t. list_any (same_id id) (ids t)) w.table-is ∙ adds_one w.in_ok-insert.field-0 c.loop-form.table (of_function w.in-Function.function.name w.arity.result) 0 w.insert.new.self (defined_by c.form-item.result) (ap defined_by w.in-Function.is ∙ ap (λ n. of_function w.in-Function.function.name n ∷ []) (sym w.arity.ensures)) w.in_ok-insert.ensures.inserted id
        | in_default w ↦ λ id. ap (λ t. list_any (same_id id) (ids t)) w.table-is ∙ adds_none (ids c.loop-form.table) (defined_by c.form-item.result) (not_defined c.form-item.result w.in_default.not-Function) id
      ])
      c.loop-form.invariant.0,
  elim c.match-form.branch [
    | in-Function+in_ok-insert w ↦ subst (λ t. AreBounded (ids t)) (sym w.table-is) (still_bounded w.in_ok-insert.field-0 c.loop-form.table (of_function w.in-Function.function.name w.arity.result) 0 w.insert.new.self w.in_ok-insert.ensures.inserted (omega arith) c.loop-form.invariant.1)
    | in_default w ↦ subst (λ t. AreBounded (ids t)) (sym w.table-is) c.loop-form.invariant.1
  ],
)
