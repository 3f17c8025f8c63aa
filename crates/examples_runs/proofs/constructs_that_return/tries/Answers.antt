use Rattle.examples_runs.proofs.TriesRuns.{tries_1-runs, tries_2-runs, tries_4-runs, tries_10-runs, tries_16-runs, tries_23-runs, tries_30-runs, tries_32-runs, tries_37-runs}
use Rattle.examples_runs.proofs.constructs_that_return.tries.Goals as goal

pub returns-clause-a_catch_part_that_has_no_use : goal.returns-clause-a_catch_part_that_has_no_use
returns-clause-a_catch_part_that_has_no_use c = tries_1-runs

pub returns-clause-a_catch_part_without_a_class : goal.returns-clause-a_catch_part_without_a_class
returns-clause-a_catch_part_without_a_class c = tries_2-runs

pub returns-clause-a_catch_part_with_a_class : goal.returns-clause-a_catch_part_with_a_class
returns-clause-a_catch_part_with_a_class c = tries_4-runs

pub returns-clause-a_catch_part_with_a_variable_class : goal.returns-clause-a_catch_part_with_a_variable_class
returns-clause-a_catch_part_with_a_variable_class c = tries_10-runs

pub returns-clause-a_catch_part_with_guards : goal.returns-clause-a_catch_part_with_guards
returns-clause-a_catch_part_with_guards c = tries_16-runs

pub returns-clause-an_of_part : goal.returns-clause-an_of_part
returns-clause-an_of_part c = tries_23-runs

pub returns-clause-an_after_part : goal.returns-clause-an_after_part
returns-clause-an_after_part c = tries_30-runs

pub returns-clause-all_parts : goal.returns-clause-all_parts
returns-clause-all_parts c = tries_32-runs

pub returns-clause-an_of_and_an_after_part : goal.returns-clause-an_of_and_an_after_part
returns-clause-an_of_and_an_after_part c = tries_37-runs
