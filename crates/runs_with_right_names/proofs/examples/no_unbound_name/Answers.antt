use Rattle.runs_with_right_names.proofs.KnownExamples.{no_unbound_name-right, no_unbound_name-none_met}
use Rattle.runs_with_right_names.proofs.examples.no_unbound_name.Goals as goal

pub returns-clause-right : goal.returns-clause-right
returns-clause-right c = no_unbound_name-right

pub returns-clause-none_met : goal.returns-clause-none_met
returns-clause-none_met c outside steps = no_unbound_name-none_met outside no_unbound_name-right steps
