use Rattle.erl_scope.proofs.FirstFaults.{right-none, IfSome-told}
use Rattle.erl_scope.proofs.resolution.resolve.Goals as goal

pub returns-in-Some-clause-fault : goal.returns-in-Some-clause-fault
returns-in-Some-clause-fault c = IfSome-told c.args.module.now c.in_ok-first.field-0 c.in-Some.first c.answer_for.result c.in_ok-first.ensures c.in-Some.is c.answer_for.ensures

pub returns-clause-right : goal.returns-clause-right
returns-clause-right c = right-none c.args.module.now c.in_ok-first.field-0 c.in_ok-first.ensures c.in_default.is
