use Rattle.erl_scope_variables.proofs.ScopeSteps.{on_ok}
use Rattle.erl_scope_variables.proofs.ModuleSteps.{function-walked, record-walked, other-walked}
use Rattle.erl_scope_variables.proofs.modules.visit_form.Goals as goal

pub returns-in_ok-visit_clauses-in-Function : goal.returns-in_ok-visit_clauses-in-Function
returns-in_ok-visit_clauses-in-Function c = function-walked c.args.form.now c.args.walk.now c.in-Function.function c.in-Function.is c.start-start.result c.start-start.ensures c.as_slice.result.now c.as_slice.ensures c.visit_clauses.new.walk c.in_ok-visit_clauses-in-Function.ensures c.forget.new.self c.forget.ensures

pub returns-in-RecDef : goal.returns-in-RecDef
returns-in-RecDef c = on_ok (record-walked c.args.form.now c.args.walk.now c.in-RecDef.definition c.in-RecDef.is c.get.result.now c.get.ensures c.as_slice-in-RecDef.result.now c.as_slice-in-RecDef.ensures c.visit_defaults.new.walk) c.visit_defaults.result c.visit_defaults.ensures

pub returns-in_default : goal.returns-in_default
returns-in_default c = other-walked c.args.form.now c.args.walk.now c.in_default.not-Function c.in_default.not-RecDef
