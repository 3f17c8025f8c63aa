use Rattle.std.proofs.lemmas.Result.{IfOk-weaker}
use Rattle.cert_checker.proofs.Arguments.{set-at}
use Rattle.cert_checker.proofs.comparison.outside_param.Goals as goal

pub returns : goal.returns
returns c = IfOk-weaker c.first_outside.result _ _ (λ outside h s t us w d e. h s t w (set-at c.args.params.now us c.args.at c.in-Some.param.now t d c.in-Some.ensures.value e)) c.first_outside.ensures
