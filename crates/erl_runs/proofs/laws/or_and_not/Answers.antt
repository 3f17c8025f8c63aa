use Rattle.erl_runs.proofs.Equations.{in-Or, in-And, in-Not}
use Rattle.erl_runs.proofs.laws.or_and_not.Goals as goal

pub returns-clause-or : goal.returns-clause-or
returns-clause-or c program k v defs inst = in-Or program k defs inst v

pub returns-clause-and : goal.returns-clause-and
returns-clause-and c program k v defs inst = in-And program k defs inst v

pub returns-clause-not : goal.returns-clause-not
returns-clause-not c program k v defs inst = in-Not program k defs inst v
