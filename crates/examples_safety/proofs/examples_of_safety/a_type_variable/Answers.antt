use Rattle.type_terms.proofs.SmallCases.{integers-instance}
use Rattle.examples_safety.proofs.Safe.{atoms-instance, id-kept, id-broken, id-right}
use Rattle.examples_safety.proofs.examples_of_safety.a_type_variable.Goals as goal

pub returns-clause-instances : goal.returns-clause-instances
returns-clause-instances c = (integers-instance 0, atoms-instance)

pub returns-clause-kept : goal.returns-clause-kept
returns-clause-kept c = id-kept

pub returns-clause-broken : goal.returns-clause-broken
returns-clause-broken c = id-broken

pub returns-clause-right_for_integers : goal.returns-clause-right_for_integers
returns-clause-right_for_integers c = id-right
