use Rattle.typespecs_laws.proofs.MadeTerms.{single-made}
use Rattle.typespecs_laws.proofs.laws_of_made_terms.single_types_are_well_made.Goals as goal

pub returns : goal.returns
returns c = single-made
