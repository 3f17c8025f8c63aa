use Rattle.name_table.specs.Table.{ids}
use Rattle.flat_tests.specs.Names.{FormCallsOnly}
use Rattle.flat_tests.proofs.ForEach.{IsLeft}
use Rattle.flat_tests.proofs.calls.forms_call_only_defined.Given as goal

abbrev pub invariant-loop-form : goal.invariant-loop-form
invariant-loop-form l = IsLeft (FormCallsOnly (ids l.table)) l.forms l.form-index
