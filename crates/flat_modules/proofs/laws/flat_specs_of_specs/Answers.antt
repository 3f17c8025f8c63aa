use Rattle.flat_modules.proofs.DistinctSpecs.{flat-specs}
use Rattle.flat_modules.proofs.laws.flat_specs_of_specs.Goals as goal

pub returns : goal.returns
returns c = flat-specs
