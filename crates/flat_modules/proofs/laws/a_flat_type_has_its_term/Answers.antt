use Rattle.typespecs_rules.specs.TypeTerms.{record_tuple}
use Rattle.flat_modules.proofs.FlatTypeTerms.{all-same}
use Rattle.flat_modules.proofs.laws.a_flat_type_has_its_term.Goals as goal

pub returns : goal.returns
returns c = λ declared variables t u e. all-same declared (record_tuple declared) variables t.kind u e
