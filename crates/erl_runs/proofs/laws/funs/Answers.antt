use Rattle.erl_runs.proofs.Equations.{in-Fun-iff}
use Rattle.erl_runs.proofs.laws.funs.Goals as goal

pub returns : goal.returns
returns c program spends k f defs inst parameters result = in-Fun-iff program spends k defs inst parameters result f
