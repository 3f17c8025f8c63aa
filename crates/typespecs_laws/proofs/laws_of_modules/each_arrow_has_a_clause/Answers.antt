use Rattle.typespecs_lemmas.proofs.EachHasAPlace.{arrow-clauses}
use Rattle.typespecs_laws.proofs.laws_of_modules.each_arrow_has_a_clause.Goals as goal

pub returns : goal.returns
returns c = arrow-clauses
