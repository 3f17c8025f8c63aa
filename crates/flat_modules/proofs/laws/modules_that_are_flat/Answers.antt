use Rattle.flat_modules.proofs.ModuleLaws.{module-flat}
use Rattle.flat_modules.proofs.laws.modules_that_are_flat.Goals as goal

pub returns : goal.returns
returns c = module-flat
