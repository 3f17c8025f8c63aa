use Rattle.type_terms.specs.Definitions.{IsOpenIn}
use Rattle.type_terms.proofs.Ranking.{by-ranks}
use Rattle.type_terms.proofs.ReadingLaws.{unfolded-Name}
use Rattle.type_terms.proofs.ReadingStability.{not-stable}
use Rattle.type_terms.proofs.laws.a_name_is_its_body.Goals as goal

pub returns : goal.returns
returns c defs right n arguments def e q = by-ranks defs right n def e (not-stable _) (λ rank ranked k. k (unfolded-Name defs rank (IsOpenIn defs) ranked n arguments def e q))
