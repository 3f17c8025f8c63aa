use Rattle.erl_scope_variables.proofs.RowSteps.{pattern-found}
use Rattle.erl_scope_variables.proofs.rows.find_pattern.Goals as goal

pub returns : goal.returns
returns c = pattern-found c.args.role c.args.walk.now c.start-start.result c.start-start.ensures c.args.pattern.now c.get.result.now c.get.ensures c.walk_pattern.new.walk c.unsee.new.self c.in_ok-walk_pattern.ensures c.unsee.ensures
