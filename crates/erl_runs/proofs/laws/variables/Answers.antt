use Rattle.erl_runs.proofs.Equations.{in-Var, in-Var-other, in-Var-none}
use Rattle.erl_runs.proofs.laws.variables.Goals as goal

pub returns-clause-entry : goal.returns-clause-entry
returns-clause-entry c program k v defs own a t inner rest = in-Var program k defs v a t own inner rest

pub returns-clause-other_entry : goal.returns-clause-other_entry
returns-clause-other_entry c program k v defs own a b t inner rest h = in-Var-other program k defs v a b t own inner rest h

pub returns-clause-no_entry : goal.returns-clause-no_entry
returns-clause-no_entry c program k v defs a = in-Var-none program k defs v a
