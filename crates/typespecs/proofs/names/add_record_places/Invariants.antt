use Rattle.std.proofs.Common.{◌≡◌, ◌++◌, take}
use Rattle.typespecs.specs.Names.{record_places_among}
use Rattle.typespecs.proofs.names.add_record_places.Given as goal

abbrev pub invariant-loop-form : goal.invariant-loop-form
invariant-loop-form l = l.places ≡ l.initial.places ++ record_places_among (take l.form-index l.forms)
