use Rattle.type_terms.proofs.ListExamples.{list-signed}
use Rattle.type_terms.proofs.examples.lists_are_well_signed.Goals as goal

pub returns : goal.returns
returns c = list-signed
