use Rattle.erl_scope_variables.proofs.ScopeSteps.{on_ok, sets_aside}
use Rattle.erl_scope_variables.proofs.walk.Walk.set_aside.Goals as goal

pub returns : goal.returns
returns c = on_ok (sets_aside c.args.self.now c.args.start c.within-start.result c.within-start.ensures.seen c.within-start.ensures.ended c.within-start.ensures.aside c.set_aside.new.self) c.set_aside.result c.set_aside.ensures
