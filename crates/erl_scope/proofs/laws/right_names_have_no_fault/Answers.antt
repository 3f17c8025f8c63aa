use Rattle.std.proofs.Common.{None, ap}
use Rattle.erl_scope_rules.specs.ScopeFaults.{faults_of}
use Rattle.erl_scope_rules.specs.Earliest.{earliest}
use Rattle.erl_scope_rules.proofs.EarliestLaws.{earliest-none}
use Rattle.erl_scope.proofs.laws.right_names_have_no_fault.Goals as goal

pub returns-clause-none : goal.returns-clause-none
returns-clause-none c m = (λ e. earliest-none (faults_of m) e, λ e. ap (earliest None) e)
