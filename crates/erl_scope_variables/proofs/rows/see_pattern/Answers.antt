use Rattle.erl_scope_variables.proofs.ScopeSteps.{on_ok}
use Rattle.erl_scope_variables.proofs.RowSteps.{pattern-seen}
use Rattle.erl_scope_variables.proofs.rows.see_pattern.Goals as goal

pub returns : goal.returns
returns c = on_ok (pattern-seen c.args.role c.args.walk.now c.start.result c.start.ensures c.args.pattern.now c.get.result.now c.get.ensures c.walk_pattern.new.walk) c.walk_pattern.result c.walk_pattern.ensures
