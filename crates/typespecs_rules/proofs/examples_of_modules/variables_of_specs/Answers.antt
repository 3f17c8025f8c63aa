use Rattle.typespecs_rules.proofs.ModuleExamples.{variables_of_specs-bounded_once, variables_of_specs-bounded_twice, variables_of_specs-bound_with_a_variable, variables_of_specs-bounds_in_a_row, variables_of_specs-unused_bound, variables_of_specs-two_clauses}
use Rattle.typespecs_rules.proofs.examples_of_modules.variables_of_specs.Goals as goal

pub returns-clause-bounded_once : goal.returns-clause-bounded_once
returns-clause-bounded_once c = variables_of_specs-bounded_once

pub returns-clause-bounded_twice : goal.returns-clause-bounded_twice
returns-clause-bounded_twice c = variables_of_specs-bounded_twice

pub returns-clause-bound_with_a_variable : goal.returns-clause-bound_with_a_variable
returns-clause-bound_with_a_variable c = variables_of_specs-bound_with_a_variable

pub returns-clause-bounds_in_a_row : goal.returns-clause-bounds_in_a_row
returns-clause-bounds_in_a_row c = variables_of_specs-bounds_in_a_row

pub returns-clause-unused_bound : goal.returns-clause-unused_bound
returns-clause-unused_bound c = variables_of_specs-unused_bound

pub returns-clause-two_clauses : goal.returns-clause-two_clauses
returns-clause-two_clauses c = variables_of_specs-two_clauses
