use Rattle.typespecs_laws.proofs.RegularSpecs.{specs-regular}
use Rattle.typespecs_laws.proofs.laws_of_modules.specs_are_regular.Goals as goal

pub returns : goal.returns
returns c = specs-regular
