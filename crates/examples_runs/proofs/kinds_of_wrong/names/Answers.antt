use Rattle.examples_runs.proofs.KindsOfWrongRuns.{unbound_variable-runs}
use Rattle.examples_runs.proofs.OwnOutcomesRuns.{own_outcomes_49-runs, own_outcomes_50-runs}
use Rattle.examples_runs.proofs.kinds_of_wrong.names.Goals as goal

pub returns-clause-unbound_variable : goal.returns-clause-unbound_variable
returns-clause-unbound_variable c = unbound_variable-runs

pub returns-clause-variable_of_a_case : goal.returns-clause-variable_of_a_case
returns-clause-variable_of_a_case c = own_outcomes_49-runs

pub returns-clause-variable_of_a_begin : goal.returns-clause-variable_of_a_begin
returns-clause-variable_of_a_begin c = own_outcomes_50-runs
