use Rattle.std.proofs.Common.{subst, rules}
use Rattle.type_terms.specs.Refusals.{AreWellMade}
use Rattle.tests_reading.proofs.simple.simple_defs.Goals as goal

pub new-requires : goal.new-requires
new-requires c = subst AreWellMade c.as_slice.ensures (c.if-not-are_simple.ensures (search rules))
