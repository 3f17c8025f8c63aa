use Rattle.erl_scope_variables.proofs.ModuleSteps.{without-default, with-default}
use Rattle.erl_scope_variables.proofs.modules.visit_default.Goals as goal

pub returns-in-None : goal.returns-in-None
returns-in-None c = without-default c.args.default.now c.in-None.is c.args.walk.now

pub returns-in_ok-visit-in-Some : goal.returns-in_ok-visit-in-Some
returns-in_ok-visit-in-Some c = with-default c.args.default.now c.in-Some.expr c.in-Some.is c.args.walk.now c.start-start.result c.start-start.ensures c.get.result.now c.get.ensures c.visit.new.walk c.in_ok-visit-in-Some.ensures c.forget.new.self c.forget.ensures
