-- Proofs of examples, by computing. Written by expressions.escript.
use Rattle.std.proofs.Common.{refl}
use Rattle.examples_runs.specs.KindsInOrder.{KindsInOrder, kinds_in_order_1, kinds_in_order_2, kinds_in_order_3, kinds_in_order_4, kinds_in_order_5, kinds_in_order_6, kinds_in_order_7, kinds_in_order_8, kinds_in_order_9, kinds_in_order_10, kinds_in_order_11, kinds_in_order_12, kinds_in_order_13, kinds_in_order_14, kinds_in_order_15, kinds_in_order_16}
use Rattle.examples_runs.proofs.Levels.{computed, outcome_in_levels}

pub kinds_in_order_1-runs : kinds_in_order_1
unfolding outcome_in_levels
kinds_in_order_1-runs = computed _ _ _ _ refl

pub kinds_in_order_2-runs : kinds_in_order_2
unfolding outcome_in_levels
kinds_in_order_2-runs = computed _ _ _ _ refl

pub kinds_in_order_3-runs : kinds_in_order_3
unfolding outcome_in_levels
kinds_in_order_3-runs = computed _ _ _ _ refl

pub kinds_in_order_4-runs : kinds_in_order_4
unfolding outcome_in_levels
kinds_in_order_4-runs = computed _ _ _ _ refl

pub kinds_in_order_5-runs : kinds_in_order_5
unfolding outcome_in_levels
kinds_in_order_5-runs = computed _ _ _ _ refl

pub kinds_in_order_6-runs : kinds_in_order_6
unfolding outcome_in_levels
kinds_in_order_6-runs = computed _ _ _ _ refl

pub kinds_in_order_7-runs : kinds_in_order_7
unfolding outcome_in_levels
kinds_in_order_7-runs = computed _ _ _ _ refl

pub kinds_in_order_8-runs : kinds_in_order_8
unfolding outcome_in_levels
kinds_in_order_8-runs = computed _ _ _ _ refl

pub kinds_in_order_9-runs : kinds_in_order_9
unfolding outcome_in_levels
kinds_in_order_9-runs = computed _ _ _ _ refl

pub kinds_in_order_10-runs : kinds_in_order_10
unfolding outcome_in_levels
kinds_in_order_10-runs = computed _ _ _ _ refl

pub kinds_in_order_11-runs : kinds_in_order_11
unfolding outcome_in_levels
kinds_in_order_11-runs = computed _ _ _ _ refl

pub kinds_in_order_12-runs : kinds_in_order_12
unfolding outcome_in_levels
kinds_in_order_12-runs = computed _ _ _ _ refl

pub kinds_in_order_13-runs : kinds_in_order_13
unfolding outcome_in_levels
kinds_in_order_13-runs = computed _ _ _ _ refl

pub kinds_in_order_14-runs : kinds_in_order_14
unfolding outcome_in_levels
kinds_in_order_14-runs = computed _ _ _ _ refl

pub kinds_in_order_15-runs : kinds_in_order_15
unfolding outcome_in_levels
kinds_in_order_15-runs = computed _ _ _ _ refl

pub kinds_in_order_16-runs : kinds_in_order_16
unfolding outcome_in_levels
kinds_in_order_16-runs = computed _ _ _ _ refl

pub kinds_in_order-run : KindsInOrder
kinds_in_order-run = (kinds_in_order_1-runs, kinds_in_order_2-runs, kinds_in_order_3-runs, kinds_in_order_4-runs, kinds_in_order_5-runs, kinds_in_order_6-runs, kinds_in_order_7-runs, kinds_in_order_8-runs, kinds_in_order_9-runs, kinds_in_order_10-runs, kinds_in_order_11-runs, kinds_in_order_12-runs, kinds_in_order_13-runs, kinds_in_order_14-runs, kinds_in_order_15-runs, kinds_in_order_16-runs)
