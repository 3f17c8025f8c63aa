use Rattle.std.proofs.Common.{map}
use Rattle.typespecs_cycles.specs.DeclarationParts.{inner_of}
use Rattle.typespecs_cycles.proofs.Gathering.{IsGathered}
use Rattle.typespecs_cycles.proofs.FormLaws.{record_inside}
use Rattle.typespecs_cycles.proofs.parts.add_records.Given as goal

abbrev pub invariant-loop-form : goal.invariant-loop-form
invariant-loop-form l = IsGathered record_inside l.forms (map inner_of l.initial.list.items) l.form-index (map inner_of l.list.items)
