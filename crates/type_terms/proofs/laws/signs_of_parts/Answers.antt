use Rattle.type_terms.proofs.SignLaws.{stands-joined, stands-replaced}
use Rattle.type_terms.proofs.laws.signs_of_parts.Goals as goal

pub returns-clause-part_of_part : goal.returns-clause-part_of_part
returns-clause-part_of_part c = stands-joined

pub returns-clause-after_replacement : goal.returns-clause-after_replacement
returns-clause-after_replacement c = stands-replaced
