use Rattle.examples_rules.proofs.FirstFaults.{unknown, negated, alternative}
use Rattle.examples_rules.proofs.faults.modules_without_specs.Goals as goal

pub returns-clause-unknown_type : goal.returns-clause-unknown_type
returns-clause-unknown_type c = unknown

pub returns-clause-negated_variable : goal.returns-clause-negated_variable
returns-clause-negated_variable c = negated

pub returns-clause-own_alternative : goal.returns-clause-own_alternative
returns-clause-own_alternative c = alternative
