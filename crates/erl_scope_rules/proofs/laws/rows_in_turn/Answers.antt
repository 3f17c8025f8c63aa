use Rattle.erl_scope_rules.proofs.OccurrenceLists.{row_behind-append, marks_behind-append, bindings_in-append}
use Rattle.erl_scope_rules.proofs.laws.rows_in_turn.Goals as goal

pub returns-clause-row : goal.returns-clause-row
returns-clause-row c role before vs ws = row_behind-append role before vs ws

pub returns-clause-marks : goal.returns-clause-marks
returns-clause-marks c role before vs ws = marks_behind-append role before vs ws

pub returns-clause-bindings : goal.returns-clause-bindings
returns-clause-bindings c os ps = bindings_in-append os ps
