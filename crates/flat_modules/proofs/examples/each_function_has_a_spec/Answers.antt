use Rattle.flat_modules.proofs.SmallExamples.{no-functions, no-spec}
use Rattle.flat_modules.proofs.examples.each_function_has_a_spec.Goals as goal

pub returns-clause-no_functions : goal.returns-clause-no_functions
returns-clause-no_functions c = no-functions

pub returns-clause-no_spec : goal.returns-clause-no_spec
returns-clause-no_spec c = no-spec
