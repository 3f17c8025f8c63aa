use Rattle.examples_rules.proofs.SingleTypes.{right-atom, right-use, undeclared}
use Rattle.examples_rules.proofs.single_types.right_types.Goals as goal

pub returns-clause-atom : goal.returns-clause-atom
returns-clause-atom c = right-atom

pub returns-clause-declared : goal.returns-clause-declared
returns-clause-declared c = right-use

pub returns-clause-not_declared : goal.returns-clause-not_declared
returns-clause-not_declared c = undeclared
