use Rattle.typespecs_rules.proofs.RightTypes.{used-some}
use Rattle.typespecs_rules.proofs.laws.a_right_use_has_a_term.Goals as goal

pub returns : goal.returns
returns c = used-some
