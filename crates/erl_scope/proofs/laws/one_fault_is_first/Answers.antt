use Rattle.erl_scope.proofs.OneFirst.{IsFirstFault-same}
use Rattle.erl_scope.proofs.laws.one_fault_is_first.Goals as goal

pub returns : goal.returns
returns c = IsFirstFault-same
