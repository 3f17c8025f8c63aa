use Rattle.examples_rules.proofs.ReadableModules.{without-functions, with-names, with-specs, with-readable}
use Rattle.examples_rules.proofs.readable.modules_that_are_readable.Goals as goal

pub returns-clause-no_functions : goal.returns-clause-no_functions
returns-clause-no_functions c = without-functions

pub returns-clause-right_names : goal.returns-clause-right_names
returns-clause-right_names c = with-names

pub returns-clause-right_specs : goal.returns-clause-right_specs
returns-clause-right_specs c = with-specs

pub returns-clause-function_with_its_spec : goal.returns-clause-function_with_its_spec
returns-clause-function_with_its_spec c = with-readable
