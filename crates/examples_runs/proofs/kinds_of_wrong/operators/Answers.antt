use Rattle.examples_runs.proofs.OwnOutcomesRuns.{own_outcomes_1-runs, own_outcomes_2-runs, own_outcomes_3-runs, own_outcomes_4-runs, own_outcomes_5-runs, own_outcomes_6-runs, own_outcomes_7-runs, own_outcomes_9-runs, own_outcomes_10-runs, own_outcomes_11-runs, own_outcomes_12-runs, own_outcomes_13-runs, own_outcomes_14-runs, own_outcomes_15-runs, own_outcomes_16-runs}
use Rattle.examples_runs.proofs.kinds_of_wrong.operators.Goals as goal

pub returns-clause-sum_of_no_integer : goal.returns-clause-sum_of_no_integer
returns-clause-sum_of_no_integer c = own_outcomes_1-runs

pub returns-clause-difference_of_no_integer : goal.returns-clause-difference_of_no_integer
returns-clause-difference_of_no_integer c = own_outcomes_3-runs

pub returns-clause-product_of_no_integer : goal.returns-clause-product_of_no_integer
returns-clause-product_of_no_integer c = own_outcomes_2-runs

pub returns-clause-quotient_of_no_integer : goal.returns-clause-quotient_of_no_integer
returns-clause-quotient_of_no_integer c = own_outcomes_4-runs

pub returns-clause-remainder_of_no_integer : goal.returns-clause-remainder_of_no_integer
returns-clause-remainder_of_no_integer c = own_outcomes_5-runs

pub returns-clause-minus_of_no_integer : goal.returns-clause-minus_of_no_integer
returns-clause-minus_of_no_integer c = own_outcomes_6-runs

pub returns-clause-plus_of_no_integer : goal.returns-clause-plus_of_no_integer
returns-clause-plus_of_no_integer c = own_outcomes_7-runs

pub returns-clause-and_of_no_boolean : goal.returns-clause-and_of_no_boolean
returns-clause-and_of_no_boolean c = own_outcomes_9-runs

pub returns-clause-or_of_no_boolean : goal.returns-clause-or_of_no_boolean
returns-clause-or_of_no_boolean c = own_outcomes_10-runs

pub returns-clause-xor_of_no_boolean : goal.returns-clause-xor_of_no_boolean
returns-clause-xor_of_no_boolean c = own_outcomes_11-runs

pub returns-clause-not_of_no_boolean : goal.returns-clause-not_of_no_boolean
returns-clause-not_of_no_boolean c = own_outcomes_12-runs

pub returns-clause-andalso_of_no_boolean : goal.returns-clause-andalso_of_no_boolean
returns-clause-andalso_of_no_boolean c = own_outcomes_13-runs

pub returns-clause-orelse_of_no_boolean : goal.returns-clause-orelse_of_no_boolean
returns-clause-orelse_of_no_boolean c = own_outcomes_14-runs

pub returns-clause-append_to_no_list : goal.returns-clause-append_to_no_list
returns-clause-append_to_no_list c = own_outcomes_15-runs

pub returns-clause-append_to_an_improper_list : goal.returns-clause-append_to_an_improper_list
returns-clause-append_to_an_improper_list c = own_outcomes_16-runs
