use Rattle.std.proofs.Common.{[]}
use Rattle.typespecs_rules.specs.TypeParts.{from_each, types_within}
use Rattle.typespecs_rules.specs.RegularUse.{field_types}
use Rattle.typespecs_names.specs.Seen.{seen}
use Rattle.typespecs_cycles.proofs.Gathering.{IsGathered}
use Rattle.typespecs_cycles.proofs.parts.parts_of_record.Given as goal

abbrev pub invariant-loop-field : goal.invariant-loop-field
invariant-loop-field l = IsGathered (λ f. from_each types_within (field_types f.kind.ty)) l.field-items [] l.field-index (seen l.types.items)
