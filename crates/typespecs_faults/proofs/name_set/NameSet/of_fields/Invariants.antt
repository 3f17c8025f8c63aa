use Rattle.std.proofs.Common.{drop}
use Rattle.typespecs_faults.proofs.NameSetLaws.{IsNamedTo, names_of}
use Rattle.typespecs_faults.proofs.name_set.NameSet.of_fields.Given as goal

abbrev pub invariant-loop-field : goal.invariant-loop-field
invariant-loop-field l = IsNamedTo (names_of l.declaration.fields) (names_of (drop l.field-index l.field-items)) l.set.keys
