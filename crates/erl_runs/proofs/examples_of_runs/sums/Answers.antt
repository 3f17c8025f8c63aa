use Rattle.erl_runs.proofs.RunExamples.{sum-atom, sum-integers}
use Rattle.erl_runs.proofs.examples_of_runs.sums.Goals as goal

pub returns-clause-integers : goal.returns-clause-integers
returns-clause-integers c = sum-integers

pub returns-clause-no_integer : goal.returns-clause-no_integer
returns-clause-no_integer c = sum-atom
