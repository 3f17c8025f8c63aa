use Rattle.examples_runs.proofs.CallsAndStepsRuns.{calls_in_turn-runs, calls_in_arguments-runs, built_in_calls-runs, closure_calls-runs, named_fun_calls-runs, calls_of_absent_functions-runs}
use Rattle.examples_runs.proofs.calls_and_steps.calls.Goals as goal

pub returns-clause-calls_in_turn : goal.returns-clause-calls_in_turn
returns-clause-calls_in_turn c = calls_in_turn-runs

pub returns-clause-calls_in_arguments : goal.returns-clause-calls_in_arguments
returns-clause-calls_in_arguments c = calls_in_arguments-runs

pub returns-clause-built_in_calls : goal.returns-clause-built_in_calls
returns-clause-built_in_calls c = built_in_calls-runs

pub returns-clause-closure_calls : goal.returns-clause-closure_calls
returns-clause-closure_calls c = closure_calls-runs

pub returns-clause-named_fun_calls : goal.returns-clause-named_fun_calls
returns-clause-named_fun_calls c = named_fun_calls-runs

pub returns-clause-calls_of_absent_functions : goal.returns-clause-calls_of_absent_functions
returns-clause-calls_of_absent_functions c = calls_of_absent_functions-runs
