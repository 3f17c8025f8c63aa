use Rattle.type_terms.proofs.IntegerOrder.{le_int-is, less_int-is}
use Rattle.type_terms.proofs.laws.integers_are_ordered.Goals as goal

pub returns-clause-less : goal.returns-clause-less
returns-clause-less c = less_int-is

pub returns-clause-at_most : goal.returns-clause-at_most
returns-clause-at_most c = le_int-is
