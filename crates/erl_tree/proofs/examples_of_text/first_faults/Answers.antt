use Rattle.erl_tree.proofs.TextExamples.{outside_there, wide_there, escape_there, bad_token_there, greatest_not_wide}
use Rattle.erl_tree.proofs.examples_of_text.first_faults.Goals as goal

pub returns-clause-outside : goal.returns-clause-outside
returns-clause-outside c = outside_there

pub returns-clause-wide : goal.returns-clause-wide
returns-clause-wide c = wide_there

pub returns-clause-bad_escape : goal.returns-clause-bad_escape
returns-clause-bad_escape c = escape_there

pub returns-clause-bad_token : goal.returns-clause-bad_token
returns-clause-bad_token c = bad_token_there

pub returns-clause-within : goal.returns-clause-within
returns-clause-within c = greatest_not_wide
