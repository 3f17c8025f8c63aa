use Rattle.examples_rules.proofs.FlatExamples.{with-right, identity-right, no-spec, no-function, two-functions, length-built-in, unbound-used}
use Rattle.examples_rules.proofs.readable.flat_names.Goals as goal

pub returns-clause-function_with_its_spec : goal.returns-clause-function_with_its_spec
returns-clause-function_with_its_spec c = with-right

pub returns-clause-bound : goal.returns-clause-bound
returns-clause-bound c = identity-right

pub returns-clause-no_spec : goal.returns-clause-no_spec
returns-clause-no_spec c = no-spec

pub returns-clause-no_function : goal.returns-clause-no_function
returns-clause-no_function c = no-function

pub returns-clause-defined_twice : goal.returns-clause-defined_twice
returns-clause-defined_twice c = two-functions

pub returns-clause-built_in : goal.returns-clause-built_in
returns-clause-built_in c = length-built-in

pub returns-clause-unbound : goal.returns-clause-unbound
returns-clause-unbound c = unbound-used
