use Rattle.std.proofs.Common.{◌≡◌, map, take}
use Rattle.erl_tree.specs.declared.token.Place.{Place}
use Rattle.erl_scope_numbers.specs.Table.{entry_at, entry_for}
use Rattle.erl_scope_numbers.proofs.scopes.numbers_of_variables.Given as goal

abbrev pub invariant-variables : goal.invariant-variables
invariant-variables l = (at : Place) → entry_at at l.numbers ≡ entry_at at (map (entry_for l.by_binding) (take l.variable-index l.found))
