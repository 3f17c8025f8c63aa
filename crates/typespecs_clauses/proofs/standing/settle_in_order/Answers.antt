use Rattle.typespecs_clauses.proofs.standing.settle_in_order.Goals as goal

pub order-preserved : goal.order-preserved
order-preserved c = λ d known before. c.in_ok-settle.ensures d known (c.order.invariant d known before)
