use Rattle.examples_rules.proofs.FlatExamples.{one-spec, list, two-specs}
use Rattle.examples_rules.proofs.readable.flat_specs.Goals as goal

pub returns-clause-one_spec : goal.returns-clause-one_spec
returns-clause-one_spec c = one-spec

pub returns-clause-list : goal.returns-clause-list
returns-clause-list c = list

pub returns-clause-two_specs : goal.returns-clause-two_specs
returns-clause-two_specs c = two-specs
