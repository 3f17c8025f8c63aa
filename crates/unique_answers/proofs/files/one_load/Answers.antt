use Rattle.unique_answers.proofs.Loaded.{one-load}
use Rattle.unique_answers.proofs.files.one_load.Goals as goal

pub returns : goal.returns
returns c = one-load
