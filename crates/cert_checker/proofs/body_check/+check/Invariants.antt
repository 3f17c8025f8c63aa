use Rattle.std.proofs.Common.{take, ◌+◌, ◌*◌}
use Rattle.cert_checker.specs.Judging.{AreTypesIn}
use Rattle.cert_checker.proofs.body_check.+check.Given as goal

abbrev pub decreases-check_arguments : goal.decreases-check_arguments
decreases-check_arguments l = 2 * goal.size-check_arguments l + 1

abbrev pub decreases-check_expression : goal.decreases-check_expression
decreases-check_expression l = 2 * goal.size-check_expression l

abbrev pub invariant-check_arguments-loop-argument : goal.invariant-check_arguments-loop-argument
invariant-check_arguments-loop-argument l = AreTypesIn l.scope (take l.argument-index l.args) l.types
