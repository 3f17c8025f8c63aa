use Rattle.examples_rules.proofs.ScopeExamples.{every_form-patterns, every_form-last_of_a_pattern, every_form-no_fault_in_a_pattern, every_form-variables_of_expressions, every_form-variables_of_guards, every_form-calls_in_expressions, every_form-calls_in_constructs, every_form-calls_in_a_try}
use Rattle.examples_rules.proofs.examples_of_names.every_form.Goals as goal

pub returns-clause-patterns : goal.returns-clause-patterns
returns-clause-patterns c = every_form-patterns

pub returns-clause-last_of_a_pattern : goal.returns-clause-last_of_a_pattern
returns-clause-last_of_a_pattern c = every_form-last_of_a_pattern

pub returns-clause-no_fault_in_a_pattern : goal.returns-clause-no_fault_in_a_pattern
returns-clause-no_fault_in_a_pattern c = every_form-no_fault_in_a_pattern

pub returns-clause-variables_of_expressions : goal.returns-clause-variables_of_expressions
returns-clause-variables_of_expressions c = every_form-variables_of_expressions

pub returns-clause-variables_of_guards : goal.returns-clause-variables_of_guards
returns-clause-variables_of_guards c = every_form-variables_of_guards

pub returns-clause-calls_in_expressions : goal.returns-clause-calls_in_expressions
returns-clause-calls_in_expressions c = every_form-calls_in_expressions

pub returns-clause-calls_in_constructs : goal.returns-clause-calls_in_constructs
returns-clause-calls_in_constructs c = every_form-calls_in_constructs

pub returns-clause-calls_in_a_try : goal.returns-clause-calls_in_a_try
returns-clause-calls_in_a_try c = every_form-calls_in_a_try
