use Rattle.std.proofs.Common.{arith, ap, sym}
use Rattle.erl_tree.specs.Lists.{Among}
use Rattle.flat_modules.specs.FlatNames.{called_in}
use Rattle.name_table.specs.Table.{ids}
use Rattle.flat_tests.specs.Names.{ExpressionCallsOnly}
use Rattle.flat_tests.proofs.ForEach.{left_first, left_next, unmet, met}
use Rattle.flat_tests.proofs.Parts.{of_same}
use Rattle.flat_tests.proofs.DefinedCalls.{called_in_parens, called_by_operands, unknown_by_operand, called_outside, unknown_call, known_call}
use Rattle.flat_tests.proofs.calls.+called.Goals as goal

pub expressions_call_only_defined-loop-expression-init : goal.expressions_call_only_defined-loop-expression-init
expressions_call_only_defined-loop-expression-init t c = left_first (ExpressionCallsOnly (ids c.args.table.now)) c.args.expressions.now

pub expressions_call_only_defined-returns-then-not-defined : goal.expressions_call_only_defined-returns-then-not-defined
expressions_call_only_defined-returns-then-not-defined t c =
    unmet (ExpressionCallsOnly (ids c.args.table.now)) c.args.expressions.now _ _ c.in_ok-defined.defined c.loop-expression-test.true c.expression-item.is
    (of_same (λ id. Among id (ids c.args.table.now)) c.in_ok-defined.defined _ _ (ap called_in (sym c.get.ensures)) c.in_ok-defined.ensures) c.if-not-defined.true

pub expressions_call_only_defined-loop-expression-preserved : goal.expressions_call_only_defined-loop-expression-preserved
expressions_call_only_defined-loop-expression-preserved t c =
    left_next (ExpressionCallsOnly (ids c.args.table.now)) c.args.expressions.now _ _ c.loop-expression-test.true c.expression-item.is
    ((of_same (λ id. Among id (ids c.args.table.now)) c.in_ok-defined.defined _ _ (ap called_in (sym c.get.ensures)) c.in_ok-defined.ensures).0 c.if-not-defined.false) c.loop-expression.invariant

pub expressions_call_only_defined-returns : goal.expressions_call_only_defined-returns
expressions_call_only_defined-returns t c = met (ExpressionCallsOnly (ids c.args.table.now)) c.args.expressions.now c.loop-expression.expression-index (omega arith) c.loop-expression.invariant

pub calls_only_defined-returns-in-Paren : goal.calls_only_defined-returns-in-Paren
calls_only_defined-returns-in-Paren t c = called_in_parens (ids c.args.table.now) c.args.kind.now c.in-Paren.inner c.get.result.now c.calls_only_defined.result c.in-Paren.is c.get.ensures c.calls_only_defined.ensures

pub calls_only_defined-returns-then-not-left_defined : goal.calls_only_defined-returns-then-not-left_defined
calls_only_defined-returns-then-not-left_defined t c =
    unknown_by_operand (ids c.args.table.now) c.args.kind.now c.in-Binary.field-0 c.in-Binary.left c.in-Binary.right c.in-Binary.is c.get-in-Binary.result.now c.get-in-Binary.ensures
    c.in_ok-left_defined-in-Binary.left_defined c.in_ok-left_defined-in-Binary.ensures c.if-not-left_defined.true

pub calls_only_defined-returns-else-not-left_defined : goal.calls_only_defined-returns-else-not-left_defined
calls_only_defined-returns-else-not-left_defined t c =
    called_by_operands (ids c.args.table.now) c.args.kind.now c.in-Binary.field-0 c.in-Binary.left c.in-Binary.right c.in-Binary.is c.get-in-Binary.result.now c.get-in-Binary.ensures
    c.in_ok-left_defined-in-Binary.left_defined c.in_ok-left_defined-in-Binary.ensures c.get-in-Binary-2.result.now c.calls_only_defined-in-Binary-2.result c.if-not-left_defined.false
    c.get-in-Binary-2.ensures c.calls_only_defined-in-Binary-2.ensures

pub calls_only_defined-returns-then-is_some : goal.calls_only_defined-returns-then-is_some
calls_only_defined-returns-then-is_some t c = called_outside (ids c.args.table.now) c.args.kind.now c.in-Call.prefix c.in-Call.name c.in-Call.args c.in-Call.is c.is_some.result c.is_some.ensures c.if-is_some.true

pub calls_only_defined-returns-then-not-defined : goal.calls_only_defined-returns-then-not-defined
calls_only_defined-returns-then-not-defined t c =
    unknown_call (ids c.args.table.now) c.args.kind.now c.in-Call.prefix c.in-Call.name c.in-Call.args c.in-Call.is c.is_some.result c.is_some.ensures c.if-is_some.false c.len.result c.len.ensures
    c.in_ok-defined-in-Call.defined c.in_ok-defined-in-Call.ensures c.if-not-defined.true

pub calls_only_defined-returns-else-not-defined : goal.calls_only_defined-returns-else-not-defined
calls_only_defined-returns-else-not-defined t c =
    known_call (ids c.args.table.now) c.args.kind.now c.in-Call.prefix c.in-Call.name c.in-Call.args c.in-Call.is c.is_some.result c.is_some.ensures c.if-is_some.false c.len.result c.len.ensures
    c.in_ok-defined-in-Call.defined c.in_ok-defined-in-Call.ensures c.as_slice.result.now c.expressions_call_only_defined.result c.if-not-defined.false c.as_slice.ensures c.expressions_call_only_defined.ensures
