use Rattle.examples_rules.proofs.ScopeExamples.{right_names-with_its_spec, right_names-without_it, right_names-variable_unbound}
use Rattle.examples_rules.proofs.examples_of_names.right_names.Goals as goal

pub returns-clause-with_its_spec : goal.returns-clause-with_its_spec
returns-clause-with_its_spec c = right_names-with_its_spec

pub returns-clause-without_it : goal.returns-clause-without_it
returns-clause-without_it c = right_names-without_it

pub returns-clause-variable_unbound : goal.returns-clause-variable_unbound
returns-clause-variable_unbound c = right_names-variable_unbound
