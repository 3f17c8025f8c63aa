use Rattle.typespecs_laws.proofs.MadeArrows.{all-made}
use Rattle.typespecs_laws.proofs.laws_of_made_terms.arrows_are_well_made.Goals as goal

pub returns : goal.returns
returns c = all-made
