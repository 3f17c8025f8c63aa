use Rattle.erl_scope_variables.proofs.ScopeSteps.{forgets}
use Rattle.erl_scope_variables.proofs.walk.Walk.forget.Goals as goal

pub returns : goal.returns
returns c = forgets c.args.self.now c.args.start c.within-start.result c.within-start.ensures.seen c.within-start.ensures.ended c.within-start.ensures.aside c.keep_only.new.self c.keep_only.ensures
