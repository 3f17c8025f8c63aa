use Rattle.cert_checker.proofs.Refutations.{refuted-fails}
use Rattle.cert_checker.proofs.laws.what_is_refuted_fails.Goals as goal

pub returns : goal.returns
returns c = refuted-fails
