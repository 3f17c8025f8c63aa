use Rattle.name_table.specs.Table.{ids}
use Rattle.flat_tests.proofs.FunctionNames.{IsGathered}
use Rattle.flat_tests.proofs.function_names.table_of.Given as goal

abbrev pub invariant-loop-form : goal.invariant-loop-form
invariant-loop-form l = IsGathered l.forms l.form-index (ids l.table)
