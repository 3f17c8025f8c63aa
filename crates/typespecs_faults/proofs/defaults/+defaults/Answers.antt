use Rattle.std.proofs.Common.{◌∙◌, ap, arith}
use Rattle.std.specs.List.{list_all}
use Rattle.typespecs_rules.specs.RecordDefaults.{default_part}
use Rattle.typespecs_rules.specs.RecordDefaults.{is_default}
use Rattle.typespecs_faults.proofs.DefaultLaws.{minus-is, unary-is, tuple-is, list-is, barred-is, default_next, default_not, default_last}
use Rattle.typespecs_faults.proofs.defaults.+defaults.Goals as goal

pub are_defaults-loop-expr-preserved : goal.are_defaults-loop-expr-preserved
are_defaults-loop-expr-preserved t c = default_next c.args.exprs.now c.loop-expr.expr-index c.expr-item.result c.get.result.now c.is_default.result c.loop-expr-test.true c.expr-item.is c.get.ensures c.is_default.ensures c.if-not-is_default.false c.loop-expr.invariant

pub are_defaults-returns-then-not-is_default : goal.are_defaults-returns-then-not-is_default
are_defaults-returns-then-not-is_default t c = default_not c.args.exprs.now c.loop-expr.expr-index c.expr-item.result c.get.result.now c.is_default.result c.loop-expr-test.true c.expr-item.is c.get.ensures c.is_default.ensures c.if-not-is_default.true c.loop-expr.invariant

pub are_defaults-returns : goal.are_defaults-returns
are_defaults-returns t c = default_last c.args.exprs.now c.loop-expr.expr-index (omega arith) c.loop-expr.invariant

pub is_default-returns-in-Minus : goal.is_default-returns-in-Minus
is_default-returns-in-Minus t c = c.is_digits.ensures ∙ (ap (λ k. (default_part k).digits) c.get.ensures ∙ minus-is c.args.kind.now c.in-Unary.op c.in-Unary.of c.in-Unary.is c.in-Minus.is)

pub is_default-returns-in_default-op : goal.is_default-returns-in_default-op
is_default-returns-in_default-op t c = unary-is c.args.kind.now c.in-Unary.op c.in-Unary.of c.in-Unary.is c.in_default-op.not-Minus

pub is_default-returns-in-Tuple : goal.is_default-returns-in-Tuple
is_default-returns-in-Tuple t c = c.are_defaults.ensures ∙ (ap (list_all is_default) c.as_slice.ensures ∙ tuple-is c.args.kind.now c.in-Tuple.elements c.in-Tuple.is)

pub is_default-returns-in-None : goal.is_default-returns-in-None
is_default-returns-in-None t c = c.are_defaults-in-None.ensures ∙ (ap (list_all is_default) c.as_slice-in-None.ensures ∙ list-is c.args.kind.now c.in-Cells.elements c.in-Cells.tail c.in-Cells.is c.in-None.is)

pub is_default-returns-in-Some : goal.is_default-returns-in-Some
is_default-returns-in-Some t c = barred-is c.args.kind.now c.in-Cells.elements c.in-Cells.tail _ c.in-Cells.is c.in-Some.is
