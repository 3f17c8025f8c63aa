use Rattle.type_terms.proofs.MoreExamples.{own-element}
use Rattle.type_terms.proofs.examples.guarded_name.Goals as goal

pub returns : goal.returns
returns c = own-element
