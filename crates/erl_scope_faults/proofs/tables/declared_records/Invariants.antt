use Rattle.erl_scope_faults.proofs.TableLaws.{IsDeclaredTo}
use Rattle.erl_scope_faults.proofs.tables.declared_records.Given as goal

abbrev pub invariant-loop-form : goal.invariant-loop-form
invariant-loop-form l = IsDeclaredTo l.forms l.form-index l.table
