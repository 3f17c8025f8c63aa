-- Proofs of examples, by computing. Written by expressions.escript.
use Rattle.std.proofs.Common.{refl}
use Rattle.examples_runs.specs.OtherOrders.{OtherOrders, other_orders_1, other_orders_2, other_orders_3, other_orders_4, other_orders_5, other_orders_6, other_orders_7, other_orders_8, other_orders_9}
use Rattle.examples_runs.proofs.Levels.{computed, outcome_in_levels}

pub other_orders_1-runs : other_orders_1
unfolding outcome_in_levels
other_orders_1-runs = computed _ _ _ _ refl

pub other_orders_2-runs : other_orders_2
unfolding outcome_in_levels
other_orders_2-runs = computed _ _ _ _ refl

pub other_orders_3-runs : other_orders_3
unfolding outcome_in_levels
other_orders_3-runs = computed _ _ _ _ refl

pub other_orders_4-runs : other_orders_4
unfolding outcome_in_levels
other_orders_4-runs = computed _ _ _ _ refl

pub other_orders_5-runs : other_orders_5
unfolding outcome_in_levels
other_orders_5-runs = computed _ _ _ _ refl

pub other_orders_6-runs : other_orders_6
unfolding outcome_in_levels
other_orders_6-runs = computed _ _ _ _ refl

pub other_orders_7-runs : other_orders_7
unfolding outcome_in_levels
other_orders_7-runs = computed _ _ _ _ refl

pub other_orders_8-runs : other_orders_8
unfolding outcome_in_levels
other_orders_8-runs = computed _ _ _ _ refl

pub other_orders_9-runs : other_orders_9
unfolding outcome_in_levels
other_orders_9-runs = computed _ _ _ _ refl

pub other_orders-run : OtherOrders
other_orders-run = (other_orders_1-runs, other_orders_2-runs, other_orders_3-runs, other_orders_4-runs, other_orders_5-runs, other_orders_6-runs, other_orders_7-runs, other_orders_8-runs, other_orders_9-runs)
