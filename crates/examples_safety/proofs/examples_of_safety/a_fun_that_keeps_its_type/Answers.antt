use Rattle.examples_safety.proofs.FunArguments.{fun-kept, fun-broken}
use Rattle.examples_safety.proofs.examples_of_safety.a_fun_that_keeps_its_type.Goals as goal

pub returns-clause-kept : goal.returns-clause-kept
returns-clause-kept c = fun-kept

pub returns-clause-broken : goal.returns-clause-broken
returns-clause-broken c = fun-broken
