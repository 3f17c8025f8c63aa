use Rattle.erl_scope_variables.proofs.ScopeSteps.{on_ok}
use Rattle.erl_scope_variables.proofs.RowSteps.{head-read}
use Rattle.erl_scope_rules.specs.Occurrences.{class_patterns}
use Rattle.erl_scope_variables.proofs.rows.read_head.Goals as goal

pub returns : goal.returns
returns c = on_ok (head-read c.args.role c.args.walk.now c.start.result c.start.ensures (class_patterns c.args.class.now) c.args.patterns.now c.walk_class.new.walk c.walk_patterns.new.walk c.in_ok-walk_class.ensures) c.walk_patterns.result c.walk_patterns.ensures
