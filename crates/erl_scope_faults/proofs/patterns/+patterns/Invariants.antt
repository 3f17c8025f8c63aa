use Rattle.name_table.specs.Table.{ids}
use Rattle.erl_scope_rules.specs.ScopeFaults.{pattern_faults}
use Rattle.erl_scope_faults.specs.PartFaults.{entry_faults, field_pattern_faults}
use Rattle.erl_scope_faults.proofs.Rows.{IsNotedTo}
use Rattle.erl_scope_faults.proofs.patterns.+patterns.Given as goal

abbrev pub invariant-check_patterns-loop-pattern : goal.invariant-check_patterns-loop-pattern
invariant-check_patterns-loop-pattern l = IsNotedTo (pattern_faults (ids l.names.functions) l.names.records) l.patterns l.initial.first l.pattern-index l.first

abbrev pub invariant-check_entries-loop-entry : goal.invariant-check_entries-loop-entry
invariant-check_entries-loop-entry l = IsNotedTo (entry_faults (ids l.names.functions) l.names.records) l.entries l.initial.first l.entry-index l.first

abbrev pub invariant-check_fields-loop-field : goal.invariant-check_fields-loop-field
invariant-check_fields-loop-field l = IsNotedTo (field_pattern_faults (ids l.names.functions) l.names.records) l.fields l.initial.first l.field-index l.first
