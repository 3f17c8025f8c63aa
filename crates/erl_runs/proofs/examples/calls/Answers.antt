use Rattle.erl_runs.proofs.MembershipExamples.{call-within, call-outside}
use Rattle.erl_runs.proofs.examples.calls.Goals as goal

pub returns-clause-within : goal.returns-clause-within
returns-clause-within c = call-within

pub returns-clause-outside : goal.returns-clause-outside
returns-clause-outside c = call-outside
