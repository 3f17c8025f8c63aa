use Rattle.typespecs_lemmas.proofs.WellMade.{well-made}
use Rattle.typespecs_laws.proofs.laws_of_modules.definitions_are_well_made.Goals as goal

pub returns : goal.returns
returns c = well-made
