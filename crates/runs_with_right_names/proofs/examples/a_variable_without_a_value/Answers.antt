use Rattle.runs_with_right_names.proofs.KnownExamples.{a_variable_without_a_value-met, a_variable_without_a_value-none_met}
use Rattle.runs_with_right_names.proofs.examples.a_variable_without_a_value.Goals as goal

pub returns-clause-met : goal.returns-clause-met
returns-clause-met c outside steps h = a_variable_without_a_value-met outside steps h

pub returns-clause-none_met : goal.returns-clause-none_met
returns-clause-none_met c outside = a_variable_without_a_value-none_met outside
