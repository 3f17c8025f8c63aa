use Rattle.unique_answers.proofs.Tables.{one-insertion}
use Rattle.unique_answers.proofs.look_ups.one_insertion.Goals as goal

pub returns : goal.returns
returns c = one-insertion
