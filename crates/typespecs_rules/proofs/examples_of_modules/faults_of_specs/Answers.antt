use Rattle.typespecs_rules.proofs.ModuleExamples.{faults_of_specs-clauses_and_specs_differ, faults_of_specs-two_bounds, faults_of_specs-bounded_once, faults_of_specs-bound_on_itself}
use Rattle.typespecs_rules.proofs.examples_of_modules.faults_of_specs.Goals as goal

pub returns-clause-clauses_and_specs_differ : goal.returns-clause-clauses_and_specs_differ
returns-clause-clauses_and_specs_differ c = faults_of_specs-clauses_and_specs_differ

pub returns-clause-two_bounds : goal.returns-clause-two_bounds
returns-clause-two_bounds c = faults_of_specs-two_bounds

pub returns-clause-bounded_once : goal.returns-clause-bounded_once
returns-clause-bounded_once c = faults_of_specs-bounded_once

pub returns-clause-bound_on_itself : goal.returns-clause-bound_on_itself
returns-clause-bound_on_itself c = faults_of_specs-bound_on_itself
