use Rattle.erl_scope_variables.proofs.ScopeSteps.{on_ok, ends_parts}
use Rattle.erl_scope_variables.proofs.walk.Walk.end_parts.Goals as goal

pub returns : goal.returns
returns c = on_ok (ends_parts c.args.self.now c.args.start c.within-start.result c.within-start.ensures.seen c.within-start.ensures.ended c.within-start.ensures.aside c.end_parts.new.self) c.end_parts.result c.end_parts.ensures
