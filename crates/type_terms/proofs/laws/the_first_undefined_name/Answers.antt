use Rattle.type_terms.proofs.FirstUndefined.{first-undefined}
use Rattle.type_terms.proofs.laws.the_first_undefined_name.Goals as goal

pub returns : goal.returns
returns c defs n e = first-undefined defs n e
