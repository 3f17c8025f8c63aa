use Rattle.examples_runs.proofs.OwnOutcomesRuns.{own_outcomes_36-runs, own_outcomes_37-runs, own_outcomes_38-runs}
use Rattle.examples_runs.proofs.KindsOfWrongRuns.{absent_function-runs, absent_arity-runs, absent_named_fun-runs, absent_built_in-runs}
use Rattle.examples_runs.proofs.kinds_of_wrong.applications.Goals as goal

pub returns-clause-application_of_no_fun : goal.returns-clause-application_of_no_fun
returns-clause-application_of_no_fun c = own_outcomes_38-runs

pub returns-clause-closure_of_another_arity : goal.returns-clause-closure_of_another_arity
returns-clause-closure_of_another_arity c = own_outcomes_36-runs

pub returns-clause-named_fun_of_another_arity : goal.returns-clause-named_fun_of_another_arity
returns-clause-named_fun_of_another_arity c = own_outcomes_37-runs

pub returns-clause-absent_function : goal.returns-clause-absent_function
returns-clause-absent_function c = absent_function-runs

pub returns-clause-absent_arity : goal.returns-clause-absent_arity
returns-clause-absent_arity c = absent_arity-runs

pub returns-clause-absent_named_fun : goal.returns-clause-absent_named_fun
returns-clause-absent_named_fun c = absent_named_fun-runs

pub returns-clause-absent_built_in : goal.returns-clause-absent_built_in
returns-clause-absent_built_in c = absent_built_in-runs
