use Rattle.erl_runs.proofs.FiniteMapLaws.{get-insert_same, get-insert_apart}
use Rattle.erl_runs.proofs.laws.look_up_after_insertion.Goals as goal

pub returns-clause-same_key : goal.returns-clause-same_key
returns-clause-same_key c b = get-insert_same {b = b}

pub returns-clause-other_key : goal.returns-clause-other_key
returns-clause-other_key c b = get-insert_apart {b = b}
