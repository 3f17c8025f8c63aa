use Rattle.flat_modules.proofs.RightFlatNames.{right-flat-names}
use Rattle.flat_modules.proofs.laws.right_names_of_flat_modules.Goals as goal

pub returns : goal.returns
returns c = right-flat-names
