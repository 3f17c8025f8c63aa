use Rattle.unique_answers.proofs.Tables.{one-found}
use Rattle.unique_answers.proofs.look_ups.one_number_in_a_table.Goals as goal

pub returns : goal.returns
returns c = one-found
