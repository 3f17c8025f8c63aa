use Rattle.erl_runs.specs.Value.{wrong}
use Rattle.erl_runs.specs.Running.{apply, code_of}
use Rattle.runs_with_right_names.proofs.Applied.{applied, known-outcome}
use Rattle.runs_with_right_names.proofs.laws.no_unbound_name_is_met.Goals as goal

pub returns-clause-met : goal.returns-clause-met
returns-clause-met c m right outside f args steps h a unbound = (applied m right outside unbound f args steps h a).same

pub returns-clause-known : goal.returns-clause-known
returns-clause-known c m right outside f args steps h a = known-outcome m outside (apply (code_of m outside) f args steps).outcome (applied m right outside wrong f args steps h a).held
