use Rattle.std.proofs.Common.{map}
use Rattle.typespecs_cycles.specs.DeclarationParts.{inner_of}
use Rattle.typespecs_cycles.proofs.Gathering.{IsGathered}
use Rattle.typespecs_cycles.proofs.FormLaws.{type_inside}
use Rattle.typespecs_cycles.proofs.parts.add_types.Given as goal

abbrev pub invariant-loop-form : goal.invariant-loop-form
invariant-loop-form l = IsGathered type_inside l.forms (map inner_of l.initial.list.items) l.form-index (map inner_of l.list.items)
