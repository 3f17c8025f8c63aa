use Rattle.typespecs_rules.proofs.RightTypes.{all-right}
use Rattle.typespecs_rules.proofs.laws.a_right_type_has_a_term.Goals as goal

pub returns : goal.returns
returns c = λ declared tuples variables allowed there tuple_there t e. all-right declared tuples variables allowed there tuple_there t.kind t.place t.marks e
