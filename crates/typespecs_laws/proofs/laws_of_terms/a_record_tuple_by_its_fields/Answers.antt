use Rattle.typespecs_lemmas.proofs.RecordTuples.{by-fields}
use Rattle.typespecs_laws.proofs.laws_of_terms.a_record_tuple_by_its_fields.Goals as goal

pub returns : goal.returns
returns c = by-fields
