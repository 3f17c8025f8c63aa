use Rattle.type_terms.proofs.ReplacementLaws.{replaced-replaced}
use Rattle.type_terms.proofs.laws.replacing_twice.Goals as goal

pub returns : goal.returns
returns c = replaced-replaced
