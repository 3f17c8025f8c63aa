use Rattle.std.proofs.lemmas.Result.{IfOk-weaker}
use Rattle.cert_checker.specs.Constraints.{integers}
use Rattle.cert_checker.proofs.ValueSets.{integers-part}
use Rattle.cert_checker.proofs.expression_type.integers.Goals as goal

pub returns : goal.returns
returns c = IfOk-weaker c.set_of_part.result _ _ (λ set h. h integers integers-part) c.set_of_part.ensures
