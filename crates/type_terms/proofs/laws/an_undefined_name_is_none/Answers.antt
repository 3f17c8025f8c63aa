use Rattle.type_terms.proofs.ReadingLaws.{unfolded-undefined}
use Rattle.type_terms.proofs.laws.an_undefined_name_is_none.Goals as goal

pub returns : goal.returns
returns c = unfolded-undefined
