use Rattle.typespecs_lemmas.proofs.BoundTerms.{by-bound}
use Rattle.typespecs_laws.proofs.laws_of_terms.what_a_variable_stands_for.Goals as goal

pub returns : goal.returns
returns c = λ declared clause acyclic variables x. by-bound declared clause variables acyclic x
