use Rattle.examples_rules.proofs.ReadableModules.{unknown-names, unknown-not-readable, alone-specs, alone-not-readable}
use Rattle.examples_rules.proofs.readable.modules_that_are_not_readable.Goals as goal

pub returns-clause-right_names : goal.returns-clause-right_names
returns-clause-right_names c = unknown-names

pub returns-clause-unknown_type : goal.returns-clause-unknown_type
returns-clause-unknown_type c = unknown-not-readable

pub returns-clause-right_specs : goal.returns-clause-right_specs
returns-clause-right_specs c = alone-specs

pub returns-clause-no_spec : goal.returns-clause-no_spec
returns-clause-no_spec c = alone-not-readable
