use Rattle.erl_runs.proofs.RunExamples.{formed, endless}
use Rattle.erl_runs.proofs.examples_of_runs.an_endless_run.Goals as goal

pub returns-clause-formed : goal.returns-clause-formed
returns-clause-formed c = formed

pub returns-clause-endless : goal.returns-clause-endless
returns-clause-endless c = endless
