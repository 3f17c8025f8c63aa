use Rattle.std.proofs.Common.{◌≡◌, ◌++◌, length, reverse}
use Rattle.type_terms.proofs.defs.turned.Given as goal

abbrev pub invariant-turning : goal.invariant-turning
invariant-turning l = l.defs ++ reverse l.made ≡ l.initial.defs

abbrev pub decreases-turning : goal.decreases-turning
decreases-turning l = length l.defs
