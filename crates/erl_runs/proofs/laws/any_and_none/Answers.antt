use Rattle.erl_runs.proofs.Equations.{in-Any, in-None}
use Rattle.erl_runs.proofs.laws.any_and_none.Goals as goal

pub returns-clause-any : goal.returns-clause-any
returns-clause-any c program k v defs inst = in-Any program k defs inst v

pub returns-clause-none : goal.returns-clause-none
returns-clause-none c program k v defs inst = in-None program k defs inst v
