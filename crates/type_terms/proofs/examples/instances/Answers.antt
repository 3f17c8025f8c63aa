use Rattle.type_terms.proofs.ListExamples.{integers-over_given}
use Rattle.type_terms.proofs.SmallCases.{integers-instance, negated-variable}
use Rattle.type_terms.proofs.examples.instances.Goals as goal

pub returns-clause-integers : goal.returns-clause-integers
returns-clause-integers c = integers-instance 0

pub returns-clause-negated_variable : goal.returns-clause-negated_variable
returns-clause-negated_variable c = negated-variable

pub returns-clause-over_the_given : goal.returns-clause-over_the_given
returns-clause-over_the_given c = integers-over_given
