use Rattle.typespecs_lemmas.proofs.GivenReach.{given-reach-nothing}
use Rattle.typespecs_laws.proofs.laws_of_modules.given_definitions_reach_nothing.Goals as goal

pub returns : goal.returns
returns c = given-reach-nothing
