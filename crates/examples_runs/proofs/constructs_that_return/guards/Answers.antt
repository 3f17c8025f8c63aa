use Rattle.examples_runs.proofs.GuardsRuns.{guards_5-runs, guards_6-runs, guards_7-runs, guards_10-runs, guards_17-runs}
use Rattle.examples_runs.proofs.FunctionsRuns.{functions_10-runs}
use Rattle.examples_runs.proofs.constructs_that_return.guards.Goals as goal

pub returns-clause-several_tests : goal.returns-clause-several_tests
returns-clause-several_tests c = guards_5-runs

pub returns-clause-a_test_that_fails : goal.returns-clause-a_test_that_fails
returns-clause-a_test_that_fails c = guards_6-runs

pub returns-clause-two_alternatives : goal.returns-clause-two_alternatives
returns-clause-two_alternatives c = guards_7-runs

pub returns-clause-a_test_that_raises : goal.returns-clause-a_test_that_raises
returns-clause-a_test_that_raises c = guards_17-runs

pub returns-clause-a_test_that_goes_wrong : goal.returns-clause-a_test_that_goes_wrong
returns-clause-a_test_that_goes_wrong c = guards_10-runs

pub returns-clause-alternatives_of_a_function : goal.returns-clause-alternatives_of_a_function
returns-clause-alternatives_of_a_function c = functions_10-runs
