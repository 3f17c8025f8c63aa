use Rattle.std.proofs.Common.{◌≡◌, length, take}
use Rattle.std.specs.List.{zip}
use Rattle.typespecs_single.proofs.tuples.fields_with.Given as goal

abbrev pub invariant-loop-name : goal.invariant-loop-name
invariant-loop-name l = l.fields ≡ zip (take (length l.yielded) l.names) (take (length l.yielded) l.terms)
