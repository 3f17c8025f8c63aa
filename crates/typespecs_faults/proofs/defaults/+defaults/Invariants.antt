use Rattle.typespecs_faults.proofs.DefaultLaws.{AreDefaultsTo}
use Rattle.typespecs_faults.proofs.defaults.+defaults.Given as goal

abbrev pub invariant-are_defaults-loop-expr : goal.invariant-are_defaults-loop-expr
invariant-are_defaults-loop-expr l = AreDefaultsTo l.exprs l.expr-index
