use Rattle.typespecs_faults.proofs.SpecLaws.{IsRepeatedTo}
use Rattle.typespecs_faults.proofs.specs.has_two_bounds.Given as goal

abbrev pub invariant-loop-bound : goal.invariant-loop-bound
invariant-loop-bound l = IsRepeatedTo l.bounds l.bound-index l.before.keys
