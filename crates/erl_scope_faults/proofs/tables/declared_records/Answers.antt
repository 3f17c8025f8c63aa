use Rattle.std.proofs.Common.{◌+◌, drop, sym, subst}
use Rattle.erl_scope_faults.proofs.TableLaws.{IsDeclaredTo, declared_next, declared_same, not_declared, is_declared}
use Rattle.erl_scope_faults.proofs.tables.declared_records.Goals as goal
use Rattle.erl_scope_faults.proofs.tables.declared_records.Goals.{in-RecDef+in_ok-insert, in_default}

pub loop-form-preserved : goal.loop-form-preserved
loop-form-preserved c =
    elim c.match-form.branch [
      | in-RecDef+in_ok-insert w ↦
          subst (λ t. IsDeclaredTo c.args.forms.now (c.loop-form.form-index + 1) t) (sym w.table-is)
          (declared_next c.args.forms.now c.loop-form.form-index c.form-item.result w.get.result.now c.loop-form.table w.insert.new.self c.loop-form-test.true c.form-item.is
          (is_declared c.form-item.result (drop (c.loop-form.form-index + 1) c.args.forms.now) w.in-RecDef.declaration w.get.result.now w.in-RecDef.is w.get.ensures)
          w.in_ok-insert.ensures c.loop-form.invariant)
      | in_default w ↦
          subst (λ t. IsDeclaredTo c.args.forms.now (c.loop-form.form-index + 1) t) (sym w.table-is)
          (declared_same c.args.forms.now c.loop-form.form-index c.form-item.result c.loop-form.table c.loop-form-test.true c.form-item.is
          (not_declared c.form-item.result (drop (c.loop-form.form-index + 1) c.args.forms.now) w.in_default.not-RecDef) c.loop-form.invariant)
    ]
