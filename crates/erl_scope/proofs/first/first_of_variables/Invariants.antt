use Rattle.erl_scope.proofs.FirstFaults.{IsFirstBefore}
use Rattle.erl_scope.proofs.first.first_of_variables.Given as goal

abbrev pub invariant-variables : goal.invariant-variables
invariant-variables l = IsFirstBefore l.found l.variable-index l.first
