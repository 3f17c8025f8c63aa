use Rattle.std.proofs.Common.{◌≡◌, true, take}
use Rattle.std.specs.List.{All}
use Rattle.key_sets.specs.Contents.{listed}
use Rattle.key_sets.proofs.names.atom_outside.Given as goal

abbrev pub invariant-loop-name : goal.invariant-loop-name
invariant-loop-name l = All (λ v. listed l.right.names.keys v.items ≡ true) (take l.name-index l.name-items)
