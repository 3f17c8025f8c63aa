use Rattle.erl_scope_rules.proofs.SeenMarks.{marks_seen, binding_seen}
use Rattle.erl_scope_rules.proofs.laws.what_is_seen_behind_a_variable.Goals as goal

pub returns-clause-behind : goal.returns-clause-behind
returns-clause-behind c = marks_seen

pub returns-clause-binding : goal.returns-clause-binding
returns-clause-binding c = binding_seen
