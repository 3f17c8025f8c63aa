use Rattle.type_terms.proofs.KeyLaws.{key-irr, key-trans, key-same}
use Rattle.type_terms.proofs.laws.keys_are_ordered.Goals as goal

pub returns-clause-no_key_before_itself : goal.returns-clause-no_key_before_itself
returns-clause-no_key_before_itself c = key-irr

pub returns-clause-transitive : goal.returns-clause-transitive
returns-clause-transitive c = key-trans

pub returns-clause-total : goal.returns-clause-total
returns-clause-total c = key-same
