-- Proofs of whole runs, by computing.
use Rattle.std.proofs.Common.{refl}
use Rattle.examples_runs.specs.CallsAndSteps.{calls_in_turn, calls_in_arguments, built_in_calls, closure_calls, named_fun_calls, calls_before_an_exception, calls_before_wrong, calls_of_absent_functions, calls_in_a_try, calls_in_a_comprehension, steps_that_suffice, a_step_too_few, steps_that_are_used_up}
use Rattle.examples_runs.proofs.Levels.{computed, outcome_in_levels, computed-run, run_in_levels}

pub calls_in_turn-runs : calls_in_turn
unfolding run_in_levels
calls_in_turn-runs = computed-run _ _ _ _ refl

pub calls_in_arguments-runs : calls_in_arguments
unfolding run_in_levels
calls_in_arguments-runs = computed-run _ _ _ _ refl

pub built_in_calls-runs : built_in_calls
unfolding run_in_levels
built_in_calls-runs = computed-run _ _ _ _ refl

pub closure_calls-runs : closure_calls
unfolding run_in_levels
closure_calls-runs = computed-run _ _ _ _ refl

pub named_fun_calls-runs : named_fun_calls
unfolding run_in_levels
named_fun_calls-runs = computed-run _ _ _ _ refl

pub calls_before_an_exception-runs : calls_before_an_exception
unfolding run_in_levels
calls_before_an_exception-runs = computed-run _ _ _ _ refl

pub calls_before_wrong-runs : calls_before_wrong
unfolding run_in_levels
calls_before_wrong-runs = computed-run _ _ _ _ refl

pub calls_of_absent_functions-runs : calls_of_absent_functions
unfolding run_in_levels
calls_of_absent_functions-runs = computed-run _ _ _ _ refl

pub calls_in_a_try-runs : calls_in_a_try
unfolding run_in_levels
calls_in_a_try-runs = computed-run _ _ _ _ refl

pub calls_in_a_comprehension-runs : calls_in_a_comprehension
unfolding run_in_levels
calls_in_a_comprehension-runs = computed-run _ _ _ _ refl

pub steps_that_suffice-runs : steps_that_suffice
unfolding outcome_in_levels
steps_that_suffice-runs = computed _ _ _ _ refl

pub a_step_too_few-runs : a_step_too_few
unfolding outcome_in_levels
a_step_too_few-runs = computed _ _ _ _ refl

pub steps_that_are_used_up-runs : steps_that_are_used_up
unfolding outcome_in_levels
steps_that_are_used_up-runs = computed _ _ _ _ refl
