-- Proofs of examples, by computing. Written by expressions.escript.
use Rattle.std.proofs.Common.{refl}
use Rattle.examples_runs.specs.OrderOfEvaluation.{OrderOfEvaluation, order_of_evaluation_1, order_of_evaluation_2, order_of_evaluation_3, order_of_evaluation_4, order_of_evaluation_5, order_of_evaluation_6, order_of_evaluation_7, order_of_evaluation_8, order_of_evaluation_9, order_of_evaluation_10, order_of_evaluation_11, order_of_evaluation_12, order_of_evaluation_13, order_of_evaluation_14, order_of_evaluation_15, order_of_evaluation_16, order_of_evaluation_17, order_of_evaluation_18, order_of_evaluation_19, order_of_evaluation_20, order_of_evaluation_21, order_of_evaluation_22, order_of_evaluation_23, order_of_evaluation_24, order_of_evaluation_25, order_of_evaluation_26, order_of_evaluation_27, order_of_evaluation_28, order_of_evaluation_29, order_of_evaluation_30, order_of_evaluation_31, order_of_evaluation_32, order_of_evaluation_33, order_of_evaluation_34, order_of_evaluation_35, order_of_evaluation_36, order_of_evaluation_37, order_of_evaluation_38, order_of_evaluation_39, order_of_evaluation_40, order_of_evaluation_41, order_of_evaluation_42, order_of_evaluation_43}
use Rattle.examples_runs.proofs.Levels.{computed, outcome_in_levels}

pub order_of_evaluation_1-runs : order_of_evaluation_1
unfolding outcome_in_levels
order_of_evaluation_1-runs = computed _ _ _ _ refl

pub order_of_evaluation_2-runs : order_of_evaluation_2
unfolding outcome_in_levels
order_of_evaluation_2-runs = computed _ _ _ _ refl

pub order_of_evaluation_3-runs : order_of_evaluation_3
unfolding outcome_in_levels
order_of_evaluation_3-runs = computed _ _ _ _ refl

pub order_of_evaluation_4-runs : order_of_evaluation_4
unfolding outcome_in_levels
order_of_evaluation_4-runs = computed _ _ _ _ refl

pub order_of_evaluation_5-runs : order_of_evaluation_5
unfolding outcome_in_levels
order_of_evaluation_5-runs = computed _ _ _ _ refl

pub order_of_evaluation_6-runs : order_of_evaluation_6
unfolding outcome_in_levels
order_of_evaluation_6-runs = computed _ _ _ _ refl

pub order_of_evaluation_7-runs : order_of_evaluation_7
unfolding outcome_in_levels
order_of_evaluation_7-runs = computed _ _ _ _ refl

pub order_of_evaluation_8-runs : order_of_evaluation_8
unfolding outcome_in_levels
order_of_evaluation_8-runs = computed _ _ _ _ refl

pub order_of_evaluation_9-runs : order_of_evaluation_9
unfolding outcome_in_levels
order_of_evaluation_9-runs = computed _ _ _ _ refl

pub order_of_evaluation_10-runs : order_of_evaluation_10
unfolding outcome_in_levels
order_of_evaluation_10-runs = computed _ _ _ _ refl

pub order_of_evaluation_11-runs : order_of_evaluation_11
unfolding outcome_in_levels
order_of_evaluation_11-runs = computed _ _ _ _ refl

pub order_of_evaluation_12-runs : order_of_evaluation_12
unfolding outcome_in_levels
order_of_evaluation_12-runs = computed _ _ _ _ refl

pub order_of_evaluation_13-runs : order_of_evaluation_13
unfolding outcome_in_levels
order_of_evaluation_13-runs = computed _ _ _ _ refl

pub order_of_evaluation_14-runs : order_of_evaluation_14
unfolding outcome_in_levels
order_of_evaluation_14-runs = computed _ _ _ _ refl

pub order_of_evaluation_15-runs : order_of_evaluation_15
unfolding outcome_in_levels
order_of_evaluation_15-runs = computed _ _ _ _ refl

pub order_of_evaluation_16-runs : order_of_evaluation_16
unfolding outcome_in_levels
order_of_evaluation_16-runs = computed _ _ _ _ refl

pub order_of_evaluation_17-runs : order_of_evaluation_17
unfolding outcome_in_levels
order_of_evaluation_17-runs = computed _ _ _ _ refl

pub order_of_evaluation_18-runs : order_of_evaluation_18
unfolding outcome_in_levels
order_of_evaluation_18-runs = computed _ _ _ _ refl

pub order_of_evaluation_19-runs : order_of_evaluation_19
unfolding outcome_in_levels
order_of_evaluation_19-runs = computed _ _ _ _ refl

pub order_of_evaluation_20-runs : order_of_evaluation_20
unfolding outcome_in_levels
order_of_evaluation_20-runs = computed _ _ _ _ refl

pub order_of_evaluation_21-runs : order_of_evaluation_21
unfolding outcome_in_levels
order_of_evaluation_21-runs = computed _ _ _ _ refl

pub order_of_evaluation_22-runs : order_of_evaluation_22
unfolding outcome_in_levels
order_of_evaluation_22-runs = computed _ _ _ _ refl

pub order_of_evaluation_23-runs : order_of_evaluation_23
unfolding outcome_in_levels
order_of_evaluation_23-runs = computed _ _ _ _ refl

pub order_of_evaluation_24-runs : order_of_evaluation_24
unfolding outcome_in_levels
order_of_evaluation_24-runs = computed _ _ _ _ refl

pub order_of_evaluation_25-runs : order_of_evaluation_25
unfolding outcome_in_levels
order_of_evaluation_25-runs = computed _ _ _ _ refl

pub order_of_evaluation_26-runs : order_of_evaluation_26
unfolding outcome_in_levels
order_of_evaluation_26-runs = computed _ _ _ _ refl

pub order_of_evaluation_27-runs : order_of_evaluation_27
unfolding outcome_in_levels
order_of_evaluation_27-runs = computed _ _ _ _ refl

pub order_of_evaluation_28-runs : order_of_evaluation_28
unfolding outcome_in_levels
order_of_evaluation_28-runs = computed _ _ _ _ refl

pub order_of_evaluation_29-runs : order_of_evaluation_29
unfolding outcome_in_levels
order_of_evaluation_29-runs = computed _ _ _ _ refl

pub order_of_evaluation_30-runs : order_of_evaluation_30
unfolding outcome_in_levels
order_of_evaluation_30-runs = computed _ _ _ _ refl

pub order_of_evaluation_31-runs : order_of_evaluation_31
unfolding outcome_in_levels
order_of_evaluation_31-runs = computed _ _ _ _ refl

pub order_of_evaluation_32-runs : order_of_evaluation_32
unfolding outcome_in_levels
order_of_evaluation_32-runs = computed _ _ _ _ refl

pub order_of_evaluation_33-runs : order_of_evaluation_33
unfolding outcome_in_levels
order_of_evaluation_33-runs = computed _ _ _ _ refl

pub order_of_evaluation_34-runs : order_of_evaluation_34
unfolding outcome_in_levels
order_of_evaluation_34-runs = computed _ _ _ _ refl

pub order_of_evaluation_35-runs : order_of_evaluation_35
unfolding outcome_in_levels
order_of_evaluation_35-runs = computed _ _ _ _ refl

pub order_of_evaluation_36-runs : order_of_evaluation_36
unfolding outcome_in_levels
order_of_evaluation_36-runs = computed _ _ _ _ refl

pub order_of_evaluation_37-runs : order_of_evaluation_37
unfolding outcome_in_levels
order_of_evaluation_37-runs = computed _ _ _ _ refl

pub order_of_evaluation_38-runs : order_of_evaluation_38
unfolding outcome_in_levels
order_of_evaluation_38-runs = computed _ _ _ _ refl

pub order_of_evaluation_39-runs : order_of_evaluation_39
unfolding outcome_in_levels
order_of_evaluation_39-runs = computed _ _ _ _ refl

pub order_of_evaluation_40-runs : order_of_evaluation_40
unfolding outcome_in_levels
order_of_evaluation_40-runs = computed _ _ _ _ refl

pub order_of_evaluation_41-runs : order_of_evaluation_41
unfolding outcome_in_levels
order_of_evaluation_41-runs = computed _ _ _ _ refl

pub order_of_evaluation_42-runs : order_of_evaluation_42
unfolding outcome_in_levels
order_of_evaluation_42-runs = computed _ _ _ _ refl

pub order_of_evaluation_43-runs : order_of_evaluation_43
unfolding outcome_in_levels
order_of_evaluation_43-runs = computed _ _ _ _ refl

pub order_of_evaluation-run : OrderOfEvaluation
order_of_evaluation-run = (order_of_evaluation_1-runs, order_of_evaluation_2-runs, order_of_evaluation_3-runs, order_of_evaluation_4-runs, order_of_evaluation_5-runs, order_of_evaluation_6-runs, order_of_evaluation_7-runs, order_of_evaluation_8-runs, order_of_evaluation_9-runs, order_of_evaluation_10-runs, order_of_evaluation_11-runs, order_of_evaluation_12-runs, order_of_evaluation_13-runs, order_of_evaluation_14-runs, order_of_evaluation_15-runs, order_of_evaluation_16-runs, order_of_evaluation_17-runs, order_of_evaluation_18-runs, order_of_evaluation_19-runs, order_of_evaluation_20-runs, order_of_evaluation_21-runs, order_of_evaluation_22-runs, order_of_evaluation_23-runs, order_of_evaluation_24-runs, order_of_evaluation_25-runs, order_of_evaluation_26-runs, order_of_evaluation_27-runs, order_of_evaluation_28-runs, order_of_evaluation_29-runs, order_of_evaluation_30-runs, order_of_evaluation_31-runs, order_of_evaluation_32-runs, order_of_evaluation_33-runs, order_of_evaluation_34-runs, order_of_evaluation_35-runs, order_of_evaluation_36-runs, order_of_evaluation_37-runs, order_of_evaluation_38-runs, order_of_evaluation_39-runs, order_of_evaluation_40-runs, order_of_evaluation_41-runs, order_of_evaluation_42-runs, order_of_evaluation_43-runs)
