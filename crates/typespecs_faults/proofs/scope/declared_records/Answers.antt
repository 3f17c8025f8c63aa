use Rattle.std.proofs.Common.{◌∙◌, ◌+◌, drop, map, refl, sym, ap, subst, arith}
use Rattle.std.proofs.lemmas.List.{drop_all}
use Rattle.erl_runs.specs.Records.{records_in}
use Rattle.typespecs_faults.specs.Tables.{table_records, of_declaration}
use Rattle.typespecs_faults.proofs.DeclaredRecords.{IsFilledTo, filled_init, filled_next, filled_same, filled_last, not_declared, is_declared}
use Rattle.typespecs_faults.proofs.Rows.{rest_at}
use Rattle.typespecs_faults.proofs.scope.declared_records.Goals as goal
use Rattle.typespecs_faults.proofs.scope.declared_records.Goals.{in-RecDef+in_ok-insert_declaration, in_default}

pub loop-form-init : goal.loop-form-init
loop-form-init c = filled_init (map of_declaration (records_in c.args.forms.now)) _ (table_records c.new-table.result) c.new-table.ensures refl

pub loop-form-preserved : goal.loop-form-preserved
loop-form-preserved c =
    let whole = map of_declaration (records_in c.args.forms.now) in
    let later = drop (c.loop-form.form-index + 1) c.args.forms.now in
    let rest = rest_at c.args.forms.now c.loop-form.form-index c.form-item.result c.loop-form-test.true c.form-item.is in
    elim c.match-form.branch [
      | in-RecDef+in_ok-insert_declaration w ↦
          subst (λ t. IsFilledTo whole (map of_declaration (records_in later)) (table_records t)) (sym w.table-is)
          (filled_next whole _ (map of_declaration (records_in later)) (table_records c.loop-form.table) (table_records w.insert_declaration.new.self) (of_declaration w.get.result.now)
          (ap (λ fs. map of_declaration (records_in fs)) rest ∙ ap (map of_declaration) (is_declared c.form-item.result later w.in-RecDef.declaration w.get.result.now w.in-RecDef.is w.get.ensures))
          w.in_ok-insert_declaration.ensures c.loop-form.invariant)
      | in_default w ↦
          subst (λ t. IsFilledTo whole (map of_declaration (records_in later)) (table_records t)) (sym w.table-is)
          (filled_same whole _ (map of_declaration (records_in later)) (table_records c.loop-form.table)
          (ap (λ fs. map of_declaration (records_in fs)) rest ∙ ap (map of_declaration) (not_declared c.form-item.result later w.in_default.not-RecDef)) c.loop-form.invariant)
    ]

pub returns : goal.returns
returns c = filled_last (map of_declaration (records_in c.args.forms.now)) _ (table_records c.loop-form.table) (ap (λ fs. map of_declaration (records_in fs)) (drop_all c.loop-form.form-index c.args.forms.now (omega arith))) c.loop-form.invariant
