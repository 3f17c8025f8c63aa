use Rattle.examples_runs.proofs.ComprehensionsRuns.{comprehensions_2-runs, comprehensions_3-runs, comprehensions_5-runs, comprehensions_9-runs, comprehensions_19-runs, comprehensions_27-runs}
use Rattle.examples_runs.proofs.constructs_that_return.comprehensions.Goals as goal

pub returns-clause-a_generator : goal.returns-clause-a_generator
returns-clause-a_generator c = comprehensions_2-runs

pub returns-clause-two_generators : goal.returns-clause-two_generators
returns-clause-two_generators c = comprehensions_5-runs

pub returns-clause-a_filter_that_is_a_guard : goal.returns-clause-a_filter_that_is_a_guard
returns-clause-a_filter_that_is_a_guard c = comprehensions_3-runs

pub returns-clause-a_filter_that_is_no_guard : goal.returns-clause-a_filter_that_is_no_guard
returns-clause-a_filter_that_is_no_guard c = comprehensions_9-runs

pub returns-clause-a_filter_alone : goal.returns-clause-a_filter_alone
returns-clause-a_filter_alone c = comprehensions_19-runs

pub returns-clause-elements_that_match : goal.returns-clause-elements_that_match
returns-clause-elements_that_match c = comprehensions_27-runs
