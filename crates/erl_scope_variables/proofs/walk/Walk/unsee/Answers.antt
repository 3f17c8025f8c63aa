use Rattle.erl_scope_variables.proofs.ScopeSteps.{unsees}
use Rattle.erl_scope_variables.proofs.walk.Walk.unsee.Goals as goal

pub returns : goal.returns
returns c = unsees c.args.self.now c.args.start c.within-start.result c.within-start.ensures.seen c.within-start.ensures.ended c.within-start.ensures.aside c.keep_only.new.self c.start-here.result c.start-here.ensures c.keep_only.ensures
