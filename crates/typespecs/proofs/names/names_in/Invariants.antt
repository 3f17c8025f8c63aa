use Rattle.std.proofs.Common.{◌≡◌, take}
use Rattle.typespecs.specs.Names.{names_among}
use Rattle.typespecs.proofs.names.names_in.Given as goal

abbrev pub invariant-loop-form : goal.invariant-loop-form
invariant-loop-form l = l.names ≡ names_among (take l.form-index l.forms)
