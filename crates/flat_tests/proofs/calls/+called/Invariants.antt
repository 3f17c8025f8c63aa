use Rattle.name_table.specs.Table.{ids}
use Rattle.flat_tests.specs.Names.{ExpressionCallsOnly}
use Rattle.flat_tests.proofs.ForEach.{IsLeft}
use Rattle.flat_tests.proofs.calls.+called.Given as goal

abbrev pub invariant-expressions_call_only_defined-loop-expression : goal.invariant-expressions_call_only_defined-loop-expression
invariant-expressions_call_only_defined-loop-expression l = IsLeft (ExpressionCallsOnly (ids l.table)) l.expressions l.expression-index
