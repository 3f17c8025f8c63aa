use Rattle.erl_scope_variables.specs.Walks.{after_default}
use Rattle.erl_scope_variables.proofs.WalkLaws.{left-next}
use Rattle.erl_scope_variables.proofs.ModuleSteps.{default-at}
use Rattle.erl_scope_variables.proofs.modules.visit_defaults.Goals as goal

pub loop-field-preserved : goal.loop-field-preserved
loop-field-preserved c =
    left-next after_default c.args.fields.now c.loop-field.field-index c.field-item.result c.loop-field.walk c.visit_default.new.walk c.args.walk.now c.loop-field-test.true c.field-item.is
    (default-at c.field-item.result c.get.result.now c.get.ensures c.loop-field.walk c.visit_default.new.walk c.in_ok-visit_default.ensures) c.loop-field.invariant
