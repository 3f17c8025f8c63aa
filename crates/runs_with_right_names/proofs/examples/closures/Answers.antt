use Rattle.runs_with_right_names.proofs.KnownExamples.{closures-variable, closures-no_variable, closures-unknown_value, closures-absent_function, closures-no_fun_expression}
use Rattle.runs_with_right_names.proofs.examples.closures.Goals as goal

pub returns-clause-variable : goal.returns-clause-variable
returns-clause-variable c = closures-variable

pub returns-clause-no_variable : goal.returns-clause-no_variable
returns-clause-no_variable c h = closures-no_variable h

pub returns-clause-unknown_value : goal.returns-clause-unknown_value
returns-clause-unknown_value c h = closures-unknown_value h

pub returns-clause-absent_function : goal.returns-clause-absent_function
returns-clause-absent_function c h = closures-absent_function h

pub returns-clause-no_fun_expression : goal.returns-clause-no_fun_expression
returns-clause-no_fun_expression c = closures-no_fun_expression
