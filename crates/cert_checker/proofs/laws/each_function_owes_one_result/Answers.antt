use Rattle.cert_checker.proofs.Judged.{one-result-each}
use Rattle.cert_checker.proofs.laws.each_function_owes_one_result.Goals as goal

pub returns : goal.returns
returns c = one-result-each
