use Rattle.erl_runs.proofs.Equations.{in-Name, in-undefined}
use Rattle.erl_runs.proofs.laws.names.Goals as goal

pub returns-clause-defined : goal.returns-clause-defined
returns-clause-defined c program k v defs inst = in-Name program k defs inst v

pub returns-clause-undefined : goal.returns-clause-undefined
returns-clause-undefined c program k v defs inst = in-undefined program k defs inst v
