use Rattle.erl_runs.proofs.MembershipExamples.{fun-inside, fun-outside}
use Rattle.erl_runs.proofs.examples.funs.Goals as goal

pub returns-clause-inside : goal.returns-clause-inside
returns-clause-inside c = fun-inside

pub returns-clause-outside : goal.returns-clause-outside
returns-clause-outside c = fun-outside
