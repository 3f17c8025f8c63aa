use Rattle.std.proofs.Common.{take}
use Rattle.erl_scope_numbers.proofs.Steps.{AreNumbersOf}
use Rattle.erl_scope_numbers.proofs.scopes.numbers_of_places.Given as goal

abbrev pub invariant-places : goal.invariant-places
invariant-places l = AreNumbersOf (take l.index l.places) l.numbers
