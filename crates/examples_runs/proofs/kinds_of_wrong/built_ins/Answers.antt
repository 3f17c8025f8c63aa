use Rattle.examples_runs.proofs.OwnOutcomesRuns.{own_outcomes_17-runs, own_outcomes_18-runs, own_outcomes_19-runs, own_outcomes_20-runs, own_outcomes_21-runs, own_outcomes_22-runs, own_outcomes_23-runs, own_outcomes_24-runs}
use Rattle.examples_runs.proofs.KindsOfWrongRuns.{arity_of_no_number-runs, arity_below_zero-runs}
use Rattle.examples_runs.proofs.kinds_of_wrong.built_ins.Goals as goal

pub returns-clause-head_of_the_empty_list : goal.returns-clause-head_of_the_empty_list
returns-clause-head_of_the_empty_list c = own_outcomes_17-runs

pub returns-clause-head_of_no_list : goal.returns-clause-head_of_no_list
returns-clause-head_of_no_list c = own_outcomes_18-runs

pub returns-clause-tail_of_the_empty_list : goal.returns-clause-tail_of_the_empty_list
returns-clause-tail_of_the_empty_list c = own_outcomes_19-runs

pub returns-clause-length_of_no_list : goal.returns-clause-length_of_no_list
returns-clause-length_of_no_list c = own_outcomes_21-runs

pub returns-clause-length_of_an_improper_list : goal.returns-clause-length_of_an_improper_list
returns-clause-length_of_an_improper_list c = own_outcomes_20-runs

pub returns-clause-tuple_size_of_no_tuple : goal.returns-clause-tuple_size_of_no_tuple
returns-clause-tuple_size_of_no_tuple c = own_outcomes_22-runs

pub returns-clause-map_size_of_no_map : goal.returns-clause-map_size_of_no_map
returns-clause-map_size_of_no_map c = own_outcomes_23-runs

pub returns-clause-abs_of_no_integer : goal.returns-clause-abs_of_no_integer
returns-clause-abs_of_no_integer c = own_outcomes_24-runs

pub returns-clause-arity_of_no_number : goal.returns-clause-arity_of_no_number
returns-clause-arity_of_no_number c = arity_of_no_number-runs

pub returns-clause-arity_below_zero : goal.returns-clause-arity_below_zero
returns-clause-arity_below_zero c = arity_below_zero-runs
