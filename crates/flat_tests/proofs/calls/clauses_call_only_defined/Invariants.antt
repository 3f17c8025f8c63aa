use Rattle.flat_modules.specs.FlatNames.{CallsOnly}
use Rattle.name_table.specs.Table.{ids}
use Rattle.flat_tests.proofs.ForEach.{IsLeft}
use Rattle.flat_tests.proofs.calls.clauses_call_only_defined.Given as goal

abbrev pub invariant-loop-clause : goal.invariant-loop-clause
invariant-loop-clause l = IsLeft (CallsOnly (ids l.table)) l.clauses l.clause-index
