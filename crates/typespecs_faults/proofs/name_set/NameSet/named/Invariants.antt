use Rattle.std.proofs.Common.{drop}
use Rattle.typespecs_faults.proofs.NameSetLaws.{IsNamedTo}
use Rattle.typespecs_faults.proofs.name_set.NameSet.named.Given as goal

abbrev pub invariant-loop-name : goal.invariant-loop-name
invariant-loop-name l = IsNamedTo l.names (drop l.name-index l.names) l.set.keys
