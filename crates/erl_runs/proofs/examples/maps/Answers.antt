use Rattle.erl_runs.proofs.MembershipExamples.{named-key, rest, missing-key, other-value, other-key}
use Rattle.erl_runs.proofs.examples.maps.Goals as goal

pub returns-clause-named_key : goal.returns-clause-named_key
returns-clause-named_key c = named-key

pub returns-clause-rest : goal.returns-clause-rest
returns-clause-rest c = rest

pub returns-clause-missing_key : goal.returns-clause-missing_key
returns-clause-missing_key c = missing-key

pub returns-clause-other_value : goal.returns-clause-other_value
returns-clause-other_value c = other-value

pub returns-clause-other_key : goal.returns-clause-other_key
returns-clause-other_key c = other-key
