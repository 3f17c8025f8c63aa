use Rattle.erl_scope_variables.proofs.ScopeSteps.{on_ok, ends_body}
use Rattle.erl_scope_variables.proofs.walk.Walk.end_body.Goals as goal

pub returns : goal.returns
returns c = on_ok (ends_body c.args.self.now c.args.start c.within-start.result c.within-start.ensures.seen c.within-start.ensures.ended c.within-start.ensures.aside c.end_body.new.self) c.end_body.result c.end_body.ensures
