use Rattle.typespecs_lemmas.proofs.EachHasAPlace.{definition-places}
use Rattle.typespecs_laws.proofs.laws_of_modules.each_definition_has_a_place.Goals as goal

pub returns : goal.returns
returns c = definition-places
