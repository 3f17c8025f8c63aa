use Rattle.std.proofs.Common.{◌≡◌, length}
use Rattle.type_terms.specs.Keys.{Name}
use Rattle.typespecs_terms.specs.Tables.{terms_in}
use Rattle.typespecs_terms.specs.Parts.{given_for}
use Rattle.typespecs_terms.proofs.GivenFields.{given_onto}
use Rattle.typespecs_terms.proofs.uses.given_terms.Given as goal

abbrev pub invariant-fields : goal.invariant-fields
invariant-fields l = (x : Name) → given_onto l.given x (terms_in l.table x) ≡ given_for l.initial.given x

abbrev pub decreases-fields : goal.decreases-fields
decreases-fields l = length l.given
