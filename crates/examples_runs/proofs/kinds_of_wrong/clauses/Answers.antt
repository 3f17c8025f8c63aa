use Rattle.examples_runs.proofs.OwnOutcomesRuns.{own_outcomes_27-runs, own_outcomes_28-runs, own_outcomes_29-runs, own_outcomes_33-runs, own_outcomes_34-runs, own_outcomes_35-runs}
use Rattle.examples_runs.proofs.kinds_of_wrong.clauses.Goals as goal

pub returns-clause-no_clause_of_a_function : goal.returns-clause-no_clause_of_a_function
returns-clause-no_clause_of_a_function c = own_outcomes_34-runs

pub returns-clause-no_clause_of_a_fun : goal.returns-clause-no_clause_of_a_fun
returns-clause-no_clause_of_a_fun c = own_outcomes_35-runs

pub returns-clause-no_clause_of_a_case : goal.returns-clause-no_clause_of_a_case
returns-clause-no_clause_of_a_case c = own_outcomes_27-runs

pub returns-clause-no_guard_of_a_case : goal.returns-clause-no_guard_of_a_case
returns-clause-no_guard_of_a_case c = own_outcomes_28-runs

pub returns-clause-no_alternative_of_an_if : goal.returns-clause-no_alternative_of_an_if
returns-clause-no_alternative_of_an_if c = own_outcomes_29-runs

pub returns-clause-no_clause_of_an_of_part : goal.returns-clause-no_clause_of_an_of_part
returns-clause-no_clause_of_an_of_part c = own_outcomes_33-runs
