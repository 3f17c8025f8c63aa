use Rattle.examples_runs.proofs.KindTestsRuns.{kind_tests_2-runs, kind_tests_3-runs, kind_tests_4-runs, kind_tests_5-runs, kind_tests_6-runs, kind_tests_7-runs, kind_tests_11-runs, kind_tests_13-runs}
use Rattle.examples_runs.proofs.PartsOfValuesRuns.{parts_of_values_1-runs, parts_of_values_4-runs, parts_of_values_8-runs, parts_of_values_12-runs, parts_of_values_14-runs}
use Rattle.examples_runs.proofs.ArithmeticRuns.{arithmetic_28-runs}
use Rattle.examples_runs.proofs.constructs_that_return.built_ins.Goals as goal

pub returns-clause-test_of_atoms : goal.returns-clause-test_of_atoms
returns-clause-test_of_atoms c = kind_tests_13-runs

pub returns-clause-test_of_booleans : goal.returns-clause-test_of_booleans
returns-clause-test_of_booleans c = kind_tests_2-runs

pub returns-clause-test_of_integers : goal.returns-clause-test_of_integers
returns-clause-test_of_integers c = kind_tests_3-runs

pub returns-clause-test_of_lists : goal.returns-clause-test_of_lists
returns-clause-test_of_lists c = kind_tests_4-runs

pub returns-clause-test_of_maps : goal.returns-clause-test_of_maps
returns-clause-test_of_maps c = kind_tests_5-runs

pub returns-clause-test_of_tuples : goal.returns-clause-test_of_tuples
returns-clause-test_of_tuples c = kind_tests_6-runs

pub returns-clause-test_of_funs : goal.returns-clause-test_of_funs
returns-clause-test_of_funs c = kind_tests_7-runs

pub returns-clause-test_of_an_arity : goal.returns-clause-test_of_an_arity
returns-clause-test_of_an_arity c = kind_tests_11-runs

pub returns-clause-a_head : goal.returns-clause-a_head
returns-clause-a_head c = parts_of_values_1-runs

pub returns-clause-a_tail : goal.returns-clause-a_tail
returns-clause-a_tail c = parts_of_values_4-runs

pub returns-clause-a_length : goal.returns-clause-a_length
returns-clause-a_length c = parts_of_values_8-runs

pub returns-clause-a_tuple_size : goal.returns-clause-a_tuple_size
returns-clause-a_tuple_size c = parts_of_values_12-runs

pub returns-clause-a_map_size : goal.returns-clause-a_map_size
returns-clause-a_map_size c = parts_of_values_14-runs

pub returns-clause-an_absolute_value : goal.returns-clause-an_absolute_value
returns-clause-an_absolute_value c = arithmetic_28-runs
