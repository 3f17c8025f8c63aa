use Rattle.std.proofs.Common.{◌≡◌, length, take}
use Rattle.type_terms.proofs.defs.cut.Given as goal

abbrev pub invariant-longer : goal.invariant-longer
invariant-longer l = take l.count l.list ≡ take l.count l.initial.list

abbrev pub decreases-longer : goal.decreases-longer
decreases-longer l = length l.list
