use Rattle.type_terms.proofs.Ranking.{chain-ends}
use Rattle.type_terms.proofs.laws.unfolding_ends.Goals as goal

pub returns : goal.returns
returns c = chain-ends
