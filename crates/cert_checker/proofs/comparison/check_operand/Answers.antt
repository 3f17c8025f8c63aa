use Rattle.std.proofs.lemmas.Result.{on_ok_weaker, IfErr-weaker}
use Rattle.cert_checker.specs.Constraints.{integers}
use Rattle.cert_checker.proofs.comparison.check_operand.Goals as goal

pub returns-clause-holds : goal.returns-clause-holds
returns-clause-holds c = on_ok_weaker c.check_within.result (λ h s w. h s integers w c.in_ok-integers.ensures) c.check_within.ensures.holds

pub returns-clause-fails : goal.returns-clause-fails
returns-clause-fails c = IfErr-weaker c.check_within.result _ _ (λ refusal h s w. h s integers w c.in_ok-integers.ensures) c.check_within.ensures.fails
