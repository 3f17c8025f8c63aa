use Rattle.examples_rules.proofs.ScopeExamples.{no_faults-own_function, no_faults-built_in, no_faults-field}
use Rattle.examples_rules.proofs.examples_of_names.no_faults.Goals as goal

pub returns-clause-own_function : goal.returns-clause-own_function
returns-clause-own_function c = no_faults-own_function

pub returns-clause-built_in : goal.returns-clause-built_in
returns-clause-built_in c = no_faults-built_in

pub returns-clause-field : goal.returns-clause-field
returns-clause-field c = no_faults-field
