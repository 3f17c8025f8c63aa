use Rattle.type_terms.proofs.ReplacementLaws.{replaced-id}
use Rattle.type_terms.proofs.laws.replacing_nothing.Goals as goal

pub returns : goal.returns
returns c = replaced-id
