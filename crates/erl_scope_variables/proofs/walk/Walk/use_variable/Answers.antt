use Rattle.erl_scope_variables.proofs.ScopeSteps.{on_ok, uses}
use Rattle.erl_scope_variables.proofs.walk.Walk.use_variable.Goals as goal

pub returns : goal.returns
returns c = on_ok (uses c.args.name.now c.args.place c.args.self.now c.resolve.new.self) c.resolve.result c.resolve.ensures
