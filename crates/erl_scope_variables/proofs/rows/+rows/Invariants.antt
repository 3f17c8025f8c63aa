use Rattle.erl_scope_variables.specs.Walks.{after_pattern, after_entry, after_pattern_field}
use Rattle.erl_scope_variables.proofs.WalkLaws.{IsLeft}
use Rattle.erl_scope_variables.proofs.rows.+rows.Given as goal

abbrev pub invariant-walk_patterns-loop-pattern : goal.invariant-walk_patterns-loop-pattern
invariant-walk_patterns-loop-pattern l = IsLeft (after_pattern l.row) l.patterns l.pattern-index l.walk l.initial.walk

abbrev pub invariant-walk_entries-loop-entry : goal.invariant-walk_entries-loop-entry
invariant-walk_entries-loop-entry l = IsLeft (after_entry l.row) l.entries l.entry-index l.walk l.initial.walk

abbrev pub invariant-walk_fields-loop-field : goal.invariant-walk_fields-loop-field
invariant-walk_fields-loop-field l = IsLeft (after_pattern_field l.row) l.fields l.field-index l.walk l.initial.walk
