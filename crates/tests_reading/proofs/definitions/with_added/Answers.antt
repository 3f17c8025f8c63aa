use Rattle.std.proofs.Common.{subst, rules}
use Rattle.type_terms.specs.Refusals.{AreWellMade}
use Rattle.tests_reading.proofs.definitions.with_added.Goals as goal

pub add-requires : goal.add-requires
add-requires c = subst AreWellMade c.as_slice.ensures (c.if-not-are_simple.ensures (search rules))
