use Rattle.examples_runs.proofs.FunctionsRuns.{functions_1-runs}
use Rattle.examples_runs.proofs.PartsOfValuesRuns.{parts_of_values_16-runs}
use Rattle.examples_runs.proofs.ConstructsThatReturnRuns.{a_fun_by_name-runs, a_fun_expression-runs}
use Rattle.examples_runs.proofs.FunsRuns.{funs_2-runs, funs_5-runs, funs_19-runs, funs_20-runs, funs_23-runs}
use Rattle.examples_runs.proofs.constructs_that_return.calls_and_funs.Goals as goal

pub returns-clause-a_call : goal.returns-clause-a_call
returns-clause-a_call c = functions_1-runs

pub returns-clause-a_call_with_a_prefix : goal.returns-clause-a_call_with_a_prefix
returns-clause-a_call_with_a_prefix c = parts_of_values_16-runs

pub returns-clause-a_fun_by_name : goal.returns-clause-a_fun_by_name
returns-clause-a_fun_by_name c = a_fun_by_name-runs

pub returns-clause-a_fun_expression : goal.returns-clause-a_fun_expression
returns-clause-a_fun_expression c = a_fun_expression-runs

pub returns-clause-an_application : goal.returns-clause-an_application
returns-clause-an_application c = funs_2-runs

pub returns-clause-an_application_of_a_fun_by_name : goal.returns-clause-an_application_of_a_fun_by_name
returns-clause-an_application_of_a_fun_by_name c = funs_20-runs

pub returns-clause-clauses_of_a_fun : goal.returns-clause-clauses_of_a_fun
returns-clause-clauses_of_a_fun c = funs_5-runs

pub returns-clause-a_closure_behind_its_function : goal.returns-clause-a_closure_behind_its_function
returns-clause-a_closure_behind_its_function c = funs_19-runs

pub returns-clause-a_fun_as_argument : goal.returns-clause-a_fun_as_argument
returns-clause-a_fun_as_argument c = funs_23-runs
