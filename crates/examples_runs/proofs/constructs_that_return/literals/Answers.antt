use Rattle.examples_runs.proofs.ConstructsThatReturnRuns.{an_atom-runs, an_integer-runs}
use Rattle.examples_runs.proofs.StringsRuns.{strings_1-runs, strings_5-runs}
use Rattle.examples_runs.proofs.BodiesRuns.{bodies_3-runs}
use Rattle.examples_runs.proofs.ListsAndTuplesRuns.{lists_and_tuples_10-runs}
use Rattle.examples_runs.proofs.constructs_that_return.literals.Goals as goal

pub returns-clause-an_atom : goal.returns-clause-an_atom
returns-clause-an_atom c = an_atom-runs

pub returns-clause-an_integer : goal.returns-clause-an_integer
returns-clause-an_integer c = an_integer-runs

pub returns-clause-a_character : goal.returns-clause-a_character
returns-clause-a_character c = strings_5-runs

pub returns-clause-a_string : goal.returns-clause-a_string
returns-clause-a_string c = strings_1-runs

pub returns-clause-a_variable : goal.returns-clause-a_variable
returns-clause-a_variable c = bodies_3-runs

pub returns-clause-parentheses : goal.returns-clause-parentheses
returns-clause-parentheses c = lists_and_tuples_10-runs
