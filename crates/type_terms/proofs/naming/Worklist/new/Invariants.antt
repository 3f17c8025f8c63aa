use Rattle.std.proofs.Common.{length}
use Rattle.type_terms.proofs.naming.Worklist.new.Given as goal

abbrev pub decreases-turning : goal.decreases-turning
decreases-turning l = length l.order
