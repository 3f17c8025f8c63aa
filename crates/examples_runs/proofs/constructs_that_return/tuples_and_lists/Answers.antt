use Rattle.examples_runs.proofs.ListsAndTuplesRuns.{lists_and_tuples_1-runs, lists_and_tuples_2-runs, lists_and_tuples_3-runs, lists_and_tuples_9-runs}
use Rattle.examples_runs.proofs.constructs_that_return.tuples_and_lists.Goals as goal

pub returns-clause-a_tuple : goal.returns-clause-a_tuple
returns-clause-a_tuple c = lists_and_tuples_9-runs

pub returns-clause-a_list : goal.returns-clause-a_list
returns-clause-a_list c = lists_and_tuples_2-runs

pub returns-clause-the_empty_list : goal.returns-clause-the_empty_list
returns-clause-the_empty_list c = lists_and_tuples_1-runs

pub returns-clause-a_list_with_a_bar : goal.returns-clause-a_list_with_a_bar
returns-clause-a_list_with_a_bar c = lists_and_tuples_3-runs
