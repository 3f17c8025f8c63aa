use Rattle.type_terms.proofs.ReplacementParts.{replaced-Cons, replaced-Tuple, replaced-Map, replaced-Fun, replaced-Or, replaced-And, replaced-Not, replaced-Name}
use Rattle.type_terms.proofs.laws.replacing_in_parts.Goals as goal

pub returns-clause-cell : goal.returns-clause-cell
returns-clause-cell c = replaced-Cons

pub returns-clause-tuple : goal.returns-clause-tuple
returns-clause-tuple c = replaced-Tuple

pub returns-clause-maps : goal.returns-clause-maps
returns-clause-maps c = replaced-Map

pub returns-clause-function : goal.returns-clause-function
returns-clause-function c = replaced-Fun

pub returns-clause-or : goal.returns-clause-or
returns-clause-or c = replaced-Or

pub returns-clause-and : goal.returns-clause-and
returns-clause-and c = replaced-And

pub returns-clause-not : goal.returns-clause-not
returns-clause-not c = replaced-Not

pub returns-clause-name : goal.returns-clause-name
returns-clause-name c = replaced-Name
