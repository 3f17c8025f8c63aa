use Rattle.std.proofs.Common.{sym, ◌∙◌, ap, subst}
use Rattle.erl_tree.specs.declared.expr.ItemKind.{out-ItemKind}
use Rattle.erl_tree.specs.declared.expr.ItemKind.TheVariants.{outs-Value}
use Rattle.cert_checker.specs.FlatTypes.{IsFlatExpr}
use Rattle.cert_checker.specs.Judging.{IsJudged}
use Rattle.cert_checker.proofs.FunctionBodies.{body-expression}
use Rattle.cert_checker.proofs.body_check.check_body.Goals as goal

pub check_result-requires-clause-flat : goal.check_result-requires-clause-flat
check_result-requires-clause-flat c = subst IsFlatExpr (body-expression c.args.body.now c.in-Some.item.now c.requires.expression c.in-Value.expression c.in-Some.ensures.value (ap out-ItemKind (sym c.get-in-Some.ensures ∙ c.in-Value.is) ∙ outs-Value c.in-Value.expression) c.requires.is_body) c.requires.flat

pub check_result-requires-clause-judged : goal.check_result-requires-clause-judged
check_result-requires-clause-judged c = subst (IsJudged c.args.scope.now) (body-expression c.args.body.now c.in-Some.item.now c.requires.expression c.in-Value.expression c.in-Some.ensures.value (ap out-ItemKind (sym c.get-in-Some.ensures ∙ c.in-Value.is) ∙ outs-Value c.in-Value.expression) c.requires.is_body) c.requires.judged
