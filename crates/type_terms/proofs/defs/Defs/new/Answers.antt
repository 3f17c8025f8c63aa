use Rattle.std.proofs.Common.{subst, sym}
use Rattle.type_terms.specs.Refusals.{AreWellMade}
use Rattle.type_terms.proofs.defs.Defs.new.Goals as goal

pub check_definitions-requires : goal.check_definitions-requires
check_definitions-requires c = subst AreWellMade (sym c.as_slice.ensures) c.requires
