use Rattle.std.proofs.Common.{arith}
use Rattle.erl_scope_variables.specs.Walks.{after_form}
use Rattle.erl_scope_variables.proofs.WalkLaws.{left-last}
use Rattle.erl_scope_variables.proofs.ModuleSteps.{module-walked}
use Rattle.erl_scope_variables.proofs.modules.resolve_variables.Goals as goal

pub returns : goal.returns
returns c =
    module-walked c.args.module.now c.as_slice-form-items.result.now c.as_slice-form-items.ensures c.new-walk.result c.loop-form.walk c.new-walk.ensures
    (left-last after_form c.as_slice-form-items.result.now c.loop-form.form-index c.loop-form.walk c.new-walk.result (omega arith) c.loop-form.invariant)
