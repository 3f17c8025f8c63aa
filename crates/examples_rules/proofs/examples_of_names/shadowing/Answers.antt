use Rattle.examples_rules.proofs.ScopeExamples.{shadowing-head_of_a_fun, shadowing-body_of_a_fun, shadowing-behind_a_fun, shadowing-no_fault_in_a_fun, shadowing-pattern_of_a_generator, shadowing-head_of_a_comprehension, shadowing-list_of_a_generator, shadowing-no_fault_in_a_comprehension}
use Rattle.examples_rules.proofs.examples_of_names.shadowing.Goals as goal

pub returns-clause-head_of_a_fun : goal.returns-clause-head_of_a_fun
returns-clause-head_of_a_fun c = shadowing-head_of_a_fun

pub returns-clause-body_of_a_fun : goal.returns-clause-body_of_a_fun
returns-clause-body_of_a_fun c = shadowing-body_of_a_fun

pub returns-clause-behind_a_fun : goal.returns-clause-behind_a_fun
returns-clause-behind_a_fun c = shadowing-behind_a_fun

pub returns-clause-no_fault_in_a_fun : goal.returns-clause-no_fault_in_a_fun
returns-clause-no_fault_in_a_fun c = shadowing-no_fault_in_a_fun

pub returns-clause-pattern_of_a_generator : goal.returns-clause-pattern_of_a_generator
returns-clause-pattern_of_a_generator c = shadowing-pattern_of_a_generator

pub returns-clause-head_of_a_comprehension : goal.returns-clause-head_of_a_comprehension
returns-clause-head_of_a_comprehension c = shadowing-head_of_a_comprehension

pub returns-clause-list_of_a_generator : goal.returns-clause-list_of_a_generator
returns-clause-list_of_a_generator c = shadowing-list_of_a_generator

pub returns-clause-no_fault_in_a_comprehension : goal.returns-clause-no_fault_in_a_comprehension
returns-clause-no_fault_in_a_comprehension c = shadowing-no_fault_in_a_comprehension
