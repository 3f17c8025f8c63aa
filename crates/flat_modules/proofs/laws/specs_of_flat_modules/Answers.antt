use Rattle.flat_modules.proofs.HasSpecs.{flat-whole, flat-readable}
use Rattle.flat_modules.proofs.laws.specs_of_flat_modules.Goals as goal

pub returns-clause-specs : goal.returns-clause-specs
returns-clause-specs c = flat-whole

pub returns-clause-readable : goal.returns-clause-readable
returns-clause-readable c = flat-readable
