use Rattle.std.proofs.Common.{◌≡◌, map, take}
use Rattle.typespecs.proofs.records.field_names.Given as goal

abbrev pub invariant-loop-field : goal.invariant-loop-field
invariant-loop-field l = l.names ≡ map (λ f. f.name) (map (λ f. f.kind) (take l.field-index l.fields))
