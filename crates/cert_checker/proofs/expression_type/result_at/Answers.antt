use Rattle.std.proofs.Common.{refl}
use Rattle.cert_checker.proofs.expression_type.result_at.Goals as goal

pub returns : goal.returns
returns c = (c.types_at.result.now, c.types_at.ensures, refl)
