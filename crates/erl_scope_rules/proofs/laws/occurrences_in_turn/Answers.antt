use Rattle.erl_scope_rules.proofs.OccurrenceLists.{seeing-append, behind-append, seeing-seeing, behind-behind, seeing-behind}
use Rattle.erl_scope_rules.proofs.laws.occurrences_in_turn.Goals as goal

pub returns-clause-seen : goal.returns-clause-seen
returns-clause-seen c marks os ps = seeing-append marks os ps

pub returns-clause-ended : goal.returns-clause-ended
returns-clause-ended c marks os ps = behind-append marks os ps

pub returns-clause-seen_outside : goal.returns-clause-seen_outside
returns-clause-seen_outside c outer inner os = seeing-seeing outer inner os

pub returns-clause-ended_outside : goal.returns-clause-ended_outside
returns-clause-ended_outside c outer inner os = behind-behind outer inner os

pub returns-clause-seen_and_ended : goal.returns-clause-seen_and_ended
returns-clause-seen_and_ended c seen ended os = seeing-behind seen ended os
