use Rattle.std.proofs.Common.{◌≡◌, take}
use Rattle.typespecs.specs.Names.{clause_places_among}
use Rattle.typespecs.proofs.signs.clause_places.Given as goal

abbrev pub invariant-loop-form : goal.invariant-loop-form
invariant-loop-form l = l.places ≡ clause_places_among (take l.form-index l.forms)
