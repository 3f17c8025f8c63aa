use Rattle.examples_rules.proofs.SingleTypes.{unknown-first, other-place, other-kind}
use Rattle.examples_rules.proofs.single_types.an_unknown_type.Goals as goal

pub returns-clause-unknown : goal.returns-clause-unknown
returns-clause-unknown c = unknown-first

pub returns-clause-other_place : goal.returns-clause-other_place
returns-clause-other_place c = other-place

pub returns-clause-other_kind : goal.returns-clause-other_kind
returns-clause-other_kind c = other-kind
