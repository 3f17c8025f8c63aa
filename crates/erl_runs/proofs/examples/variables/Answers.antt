use Rattle.type_terms.proofs.SmallCases.{integers-instance}
use Rattle.erl_runs.proofs.examples.variables.Goals as goal

pub returns-clause-instance : goal.returns-clause-instance
returns-clause-instance c = integers-instance 0
