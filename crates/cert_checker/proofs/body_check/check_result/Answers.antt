use Rattle.std.proofs.Common.{◌+◌}
use Rattle.std.proofs.lemmas.Result.{on_ok_weaker, IfErr-weaker, err_from_is_err_and}
use Rattle.type_terms.specs.declared.spec.Kind.TheVariants.{Result}
use Rattle.cert_checker.specs.Constraints.{Holds}
use Rattle.cert_checker.specs.Judging.{owed_one}
use Rattle.cert_checker.proofs.Lists.{every-join}
use Rattle.cert_checker.proofs.Failing.{shows-before, shows-after}
use Rattle.cert_checker.proofs.Judgments.{typed-stands}
use Rattle.cert_checker.proofs.body_check.check_result.Goals as goal

pub returns-in_err-found-clause-fails : goal.returns-in_err-found-clause-fails
returns-in_err-found-clause-fails c =
    let p = err_from_is_err_and c.from_residual.result c.from_residual.ensures.1 in
    rw (p.1, p.2) (λ s j t h d. shows-before j.owed (owed_one c.args.scope.now.number c.args.expression.now.place Result j.type t) (c.args.scope.now.number + 1) c.in_err-found.field-0.0 (c.in_err-found.ensures.fails s j h))

pub check_within-requires : goal.check_within-requires
check_within-requires c = typed-stands c.args.scope.now c.args.expression.now c.in_ok-found.found c.requires.judged c.in_ok-found.ensures.typed

pub returns-clause-holds : goal.returns-clause-holds
returns-clause-holds c =
    on_ok_weaker c.check_within.result
    (λ w s j t h d. let r = c.in_ok-found.ensures.typed s j h in every-join Holds j.owed (owed_one c.args.scope.now.number c.args.expression.now.place Result j.type t) r.1 (w j.type t r.0 d, tt))
    c.check_within.ensures.holds

pub returns-clause-fails : goal.returns-clause-fails
returns-clause-fails c =
    IfErr-weaker c.check_within.result _ _
    (λ refusal w s j t h d. let r = c.in_ok-found.ensures.typed s j h in shows-after j.owed (owed_one c.args.scope.now.number c.args.expression.now.place Result j.type t) (c.args.scope.now.number + 1) refusal r.1 (w j.type t r.0 d))
    c.check_within.ensures.fails
