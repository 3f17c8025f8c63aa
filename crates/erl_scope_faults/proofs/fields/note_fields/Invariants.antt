use Rattle.std.proofs.Common.{◌≡◌, [], drop}
use Rattle.std.specs.Option.{option_copied}
use Rattle.erl_scope_rules.specs.ScopeFaults.{fields_faults}
use Rattle.erl_scope_rules.specs.Earliest.{earliest}
use Rattle.erl_scope_faults.proofs.FieldLaws.{seen_names}
use Rattle.erl_scope_faults.proofs.fields.note_fields.Given as goal

abbrev pub invariant-loop-field : goal.invariant-loop-field
invariant-loop-field g l = earliest l.first (fields_faults (option_copied l.declaration) (seen_names l.before.keys) (drop l.field-index l.fields)) ≡ earliest l.initial.first (fields_faults (option_copied l.declaration) [] l.fields)
