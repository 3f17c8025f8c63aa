use Rattle.name_table.specs.Table.{ids}
use Rattle.erl_scope_rules.specs.ScopeFaults.{default_faults}
use Rattle.erl_scope_faults.proofs.Rows.{IsNotedTo}
use Rattle.erl_scope_faults.proofs.forms.check_defaults.Given as goal

abbrev pub invariant-loop-field : goal.invariant-loop-field
invariant-loop-field l = IsNotedTo (default_faults (ids l.names.functions) l.names.records) l.fields l.initial.first l.field-index l.first
