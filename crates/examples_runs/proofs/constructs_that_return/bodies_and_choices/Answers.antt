use Rattle.examples_runs.proofs.BodiesRuns.{bodies_2-runs, bodies_4-runs, bodies_5-runs, bodies_6-runs}
use Rattle.examples_runs.proofs.CasesRuns.{cases_2-runs, cases_14-runs}
use Rattle.examples_runs.proofs.GuardsRuns.{guards_4-runs}
use Rattle.examples_runs.proofs.constructs_that_return.bodies_and_choices.Goals as goal

pub returns-clause-a_body : goal.returns-clause-a_body
returns-clause-a_body c = bodies_2-runs

pub returns-clause-matches_in_a_body : goal.returns-clause-matches_in_a_body
returns-clause-matches_in_a_body c = bodies_4-runs

pub returns-clause-a_match_of_a_pattern : goal.returns-clause-a_match_of_a_pattern
returns-clause-a_match_of_a_pattern c = bodies_6-runs

pub returns-clause-a_match_of_a_bound_variable : goal.returns-clause-a_match_of_a_bound_variable
returns-clause-a_match_of_a_bound_variable c = bodies_5-runs

pub returns-clause-a_case : goal.returns-clause-a_case
returns-clause-a_case c = cases_2-runs

pub returns-clause-a_case_with_guards : goal.returns-clause-a_case_with_guards
returns-clause-a_case_with_guards c = cases_14-runs

pub returns-clause-an_if : goal.returns-clause-an_if
returns-clause-an_if c = guards_4-runs
