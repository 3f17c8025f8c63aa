use Rattle.std.proofs.Common.{◌∙◌, ap, [], ◌∷◌, ◌++◌}
use Rattle.std.proofs.lemmas.Result.{IfOk-weaker}
use Rattle.cert_checker.proofs.Comparisons.{part-set}
use Rattle.cert_checker.proofs.expression_type.set_of_part.Goals as goal

pub returns : goal.returns
returns c = IfOk-weaker c.from_parts.result _ _ (λ set h t d. part-set set c.args.part c.push.new.self t (c.in_ok-push.ensures.ok ∙ ap (λ z. z ++ c.args.part ∷ []) c.new-parts.ensures) h d) c.from_parts.ensures
