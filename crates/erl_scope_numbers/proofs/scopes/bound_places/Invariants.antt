use Rattle.std.proofs.Common.{◌≡◌, take}
use Rattle.erl_scope_numbers.specs.Numbers.{bound_places}
use Rattle.erl_scope_numbers.proofs.scopes.bound_places.Given as goal

abbrev pub invariant-variables : goal.invariant-variables
invariant-variables l = l.places.items ≡ bound_places (take l.variable-index l.found)
