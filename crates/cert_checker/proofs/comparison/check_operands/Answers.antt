use Rattle.std.proofs.Common.{◌+◌}
use Rattle.std.proofs.lemmas.Result.{on_ok_weaker, IfErr-weaker, err_from_is_err_and}
use Rattle.type_terms.specs.declared.spec.Kind.TheVariants.{Operand}
use Rattle.cert_checker.specs.Constraints.{integers}
use Rattle.cert_checker.specs.Judging.{owed_one}
use Rattle.cert_checker.proofs.Failing.{shows-before, shows-after}
use Rattle.cert_checker.proofs.comparison.check_operands.Goals as goal

pub returns-in_err-check_operand-clause-fails : goal.returns-in_err-check_operand-clause-fails
returns-in_err-check_operand-clause-fails c =
    let p = err_from_is_err_and c.from_residual.result c.from_residual.ensures.1 in
    rw (p.1, p.2) (λ s t a b. shows-before (owed_one c.args.scope.now.number c.args.left_place Operand s integers) (owed_one c.args.scope.now.number c.args.right_place Operand t integers) (c.args.scope.now.number + 1) c.in_err-check_operand.field-0.0 (c.in_err-check_operand.ensures.fails s a))

pub returns-clause-holds : goal.returns-clause-holds
returns-clause-holds c = on_ok_weaker c.check_operand-2.result (λ h s t a b. (c.in_ok-check_operand.ensures.holds s a, (h t b, tt))) c.check_operand-2.ensures.holds

pub returns-clause-fails : goal.returns-clause-fails
returns-clause-fails c =
    IfErr-weaker c.check_operand-2.result _ _
    (λ refusal h s t a b. shows-after (owed_one c.args.scope.now.number c.args.left_place Operand s integers) (owed_one c.args.scope.now.number c.args.right_place Operand t integers) (c.args.scope.now.number + 1) refusal (c.in_ok-check_operand.ensures.holds s a, tt) (h t b))
    c.check_operand-2.ensures.fails
