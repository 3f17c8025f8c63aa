use Rattle.std.proofs.Common.{◌≡◌, drop, map}
use Rattle.erl_tree.specs.declared.form.RecFieldKind.{RecFieldKind}
use Rattle.erl_tree.specs.declared.token.Node.{Node}
use Rattle.erl_runs.specs.Records.{has_field, fields_of}
use Rattle.erl_scope_faults.proofs.fields.has_field.Given as goal

abbrev pub invariant-loop-field : goal.invariant-loop-field
invariant-loop-field l = has_field (map (λ (f : Node RecFieldKind). f.kind) (drop l.field-index l.field-items)) l.name ≡ has_field (fields_of l.declaration) l.name
