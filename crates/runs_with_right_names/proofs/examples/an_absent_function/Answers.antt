use Rattle.runs_with_right_names.proofs.KnownExamples.{an_absent_function-met, an_absent_function-none_met}
use Rattle.runs_with_right_names.proofs.examples.an_absent_function.Goals as goal

pub returns-clause-met : goal.returns-clause-met
returns-clause-met c outside steps h = an_absent_function-met outside steps h

pub returns-clause-none_met : goal.returns-clause-none_met
returns-clause-none_met c outside = an_absent_function-none_met outside
