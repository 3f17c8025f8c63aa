use Rattle.examples_runs.proofs.OwnOutcomesRuns.{own_outcomes_45-runs, own_outcomes_47-runs, own_outcomes_48-runs}
use Rattle.examples_runs.proofs.kinds_of_wrong.comprehensions.Goals as goal

pub returns-clause-generator_over_no_list : goal.returns-clause-generator_over_no_list
returns-clause-generator_over_no_list c = own_outcomes_45-runs

pub returns-clause-generator_over_an_improper_list : goal.returns-clause-generator_over_an_improper_list
returns-clause-generator_over_an_improper_list c = own_outcomes_47-runs

pub returns-clause-filter_of_no_boolean : goal.returns-clause-filter_of_no_boolean
returns-clause-filter_of_no_boolean c = own_outcomes_48-runs
