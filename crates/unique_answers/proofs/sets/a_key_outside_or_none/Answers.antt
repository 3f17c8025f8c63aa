use Rattle.unique_answers.proofs.Outside.{one-kind}
use Rattle.unique_answers.proofs.sets.a_key_outside_or_none.Goals as goal

pub returns : goal.returns
returns c = one-kind
