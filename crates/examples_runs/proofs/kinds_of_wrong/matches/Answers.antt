use Rattle.examples_runs.proofs.OwnOutcomesRuns.{own_outcomes_30-runs, own_outcomes_31-runs, own_outcomes_32-runs}
use Rattle.examples_runs.proofs.kinds_of_wrong.matches.Goals as goal

pub returns-clause-match_of_another_value : goal.returns-clause-match_of_another_value
returns-clause-match_of_another_value c = own_outcomes_30-runs

pub returns-clause-match_of_a_bound_variable : goal.returns-clause-match_of_a_bound_variable
returns-clause-match_of_a_bound_variable c = own_outcomes_31-runs

pub returns-clause-match_of_another_size : goal.returns-clause-match_of_another_size
returns-clause-match_of_another_size c = own_outcomes_32-runs
