use Rattle.erl_runs.proofs.Equations.{in-Cons, in-Tuple}
use Rattle.erl_runs.proofs.laws.cells_and_tuples.Goals as goal

pub returns-clause-cell : goal.returns-clause-cell
returns-clause-cell c program k v defs inst = in-Cons program k defs inst v

pub returns-clause-tuple : goal.returns-clause-tuple
returns-clause-tuple c program k v defs inst = in-Tuple program k defs inst v
