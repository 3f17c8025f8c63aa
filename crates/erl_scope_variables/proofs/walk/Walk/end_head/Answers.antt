use Rattle.erl_scope_variables.proofs.ScopeSteps.{on_ok, ends_head}
use Rattle.erl_scope_variables.proofs.walk.Walk.end_head.Goals as goal

pub returns : goal.returns
returns c = on_ok (ends_head c.args.self.now c.args.start c.within-start.result c.within-start.ensures.seen c.within-start.ensures.ended c.within-start.ensures.aside c.end_head.new.self) c.end_head.result c.end_head.ensures
