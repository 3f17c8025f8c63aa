use Rattle.examples_runs.proofs.CasesRuns.{cases_1-runs, cases_3-runs, cases_4-runs, cases_7-runs, cases_9-runs, cases_12-runs}
use Rattle.examples_runs.proofs.MatchingRuns.{matching_1-runs, matching_4-runs, matching_6-runs, matching_9-runs, matching_12-runs, matching_14-runs, matching_16-runs, matching_21-runs, matching_23-runs}
use Rattle.examples_runs.proofs.StringsRuns.{strings_14-runs}
use Rattle.examples_runs.proofs.RecordsMadeRuns.{records_made_18-runs}
use Rattle.examples_runs.proofs.FunctionsRuns.{functions_8-runs}
use Rattle.examples_runs.proofs.FunsRuns.{funs_8-runs}
use Rattle.examples_runs.proofs.constructs_that_return.patterns.Goals as goal

pub returns-clause-integer_patterns : goal.returns-clause-integer_patterns
returns-clause-integer_patterns c = cases_1-runs

pub returns-clause-negative_patterns : goal.returns-clause-negative_patterns
returns-clause-negative_patterns c = matching_1-runs

pub returns-clause-atom_patterns : goal.returns-clause-atom_patterns
returns-clause-atom_patterns c = cases_4-runs

pub returns-clause-character_patterns : goal.returns-clause-character_patterns
returns-clause-character_patterns c = strings_14-runs

pub returns-clause-string_patterns : goal.returns-clause-string_patterns
returns-clause-string_patterns c = matching_14-runs

pub returns-clause-variable_patterns : goal.returns-clause-variable_patterns
returns-clause-variable_patterns c = cases_3-runs

pub returns-clause-bound_variable_patterns : goal.returns-clause-bound_variable_patterns
returns-clause-bound_variable_patterns c = cases_7-runs

pub returns-clause-repeated_variable_patterns : goal.returns-clause-repeated_variable_patterns
returns-clause-repeated_variable_patterns c = cases_9-runs

pub returns-clause-wildcard_patterns : goal.returns-clause-wildcard_patterns
returns-clause-wildcard_patterns c = cases_12-runs

pub returns-clause-patterns_in_parentheses : goal.returns-clause-patterns_in_parentheses
returns-clause-patterns_in_parentheses c = matching_12-runs

pub returns-clause-tuple_patterns : goal.returns-clause-tuple_patterns
returns-clause-tuple_patterns c = matching_9-runs

pub returns-clause-list_patterns : goal.returns-clause-list_patterns
returns-clause-list_patterns c = matching_4-runs

pub returns-clause-list_patterns_with_a_bar : goal.returns-clause-list_patterns_with_a_bar
returns-clause-list_patterns_with_a_bar c = matching_6-runs

pub returns-clause-map_patterns : goal.returns-clause-map_patterns
returns-clause-map_patterns c = matching_21-runs

pub returns-clause-keys_of_map_patterns : goal.returns-clause-keys_of_map_patterns
returns-clause-keys_of_map_patterns c = matching_23-runs

pub returns-clause-record_patterns : goal.returns-clause-record_patterns
returns-clause-record_patterns c = records_made_18-runs

pub returns-clause-aliases : goal.returns-clause-aliases
returns-clause-aliases c = matching_16-runs

pub returns-clause-patterns_of_a_function : goal.returns-clause-patterns_of_a_function
returns-clause-patterns_of_a_function c = functions_8-runs

pub returns-clause-patterns_of_a_fun : goal.returns-clause-patterns_of_a_fun
returns-clause-patterns_of_a_fun c = funs_8-runs
