use Rattle.examples_rules.proofs.ScopeExamples.{kinds_of_faults-unbound, kinds_of_faults-unbound_in_a_default, kinds_of_faults-bound_inside, kinds_of_faults-function_called, kinds_of_faults-built_in_called, kinds_of_faults-function_named, kinds_of_faults-function_specified, kinds_of_faults-function_exported, kinds_of_faults-two_functions, kinds_of_faults-no_spec, kinds_of_faults-no_such_record, kinds_of_faults-no_such_field, kinds_of_faults-repeated, kinds_of_faults-arity_differs}
use Rattle.examples_rules.proofs.examples_of_names.kinds_of_faults.Goals as goal

pub returns-clause-unbound : goal.returns-clause-unbound
returns-clause-unbound c = kinds_of_faults-unbound

pub returns-clause-unbound_in_a_default : goal.returns-clause-unbound_in_a_default
returns-clause-unbound_in_a_default c = kinds_of_faults-unbound_in_a_default

pub returns-clause-bound_inside : goal.returns-clause-bound_inside
returns-clause-bound_inside c = kinds_of_faults-bound_inside

pub returns-clause-function_called : goal.returns-clause-function_called
returns-clause-function_called c = kinds_of_faults-function_called

pub returns-clause-built_in_called : goal.returns-clause-built_in_called
returns-clause-built_in_called c = kinds_of_faults-built_in_called

pub returns-clause-function_named : goal.returns-clause-function_named
returns-clause-function_named c = kinds_of_faults-function_named

pub returns-clause-function_specified : goal.returns-clause-function_specified
returns-clause-function_specified c = kinds_of_faults-function_specified

pub returns-clause-function_exported : goal.returns-clause-function_exported
returns-clause-function_exported c = kinds_of_faults-function_exported

pub returns-clause-two_functions : goal.returns-clause-two_functions
returns-clause-two_functions c = kinds_of_faults-two_functions

pub returns-clause-no_spec : goal.returns-clause-no_spec
returns-clause-no_spec c = kinds_of_faults-no_spec

pub returns-clause-no_such_record : goal.returns-clause-no_such_record
returns-clause-no_such_record c = kinds_of_faults-no_such_record

pub returns-clause-no_such_field : goal.returns-clause-no_such_field
returns-clause-no_such_field c = kinds_of_faults-no_such_field

pub returns-clause-repeated : goal.returns-clause-repeated
returns-clause-repeated c = kinds_of_faults-repeated

pub returns-clause-arity_differs : goal.returns-clause-arity_differs
returns-clause-arity_differs c = kinds_of_faults-arity_differs
