-- Proofs of examples, by computing. Written by expressions.escript.
use Rattle.std.proofs.Common.{refl}
use Rattle.examples_runs.specs.Comprehensions.{Comprehensions, comprehensions_1, comprehensions_2, comprehensions_3, comprehensions_4, comprehensions_5, comprehensions_6, comprehensions_7, comprehensions_8, comprehensions_9, comprehensions_10, comprehensions_11, comprehensions_12, comprehensions_13, comprehensions_14, comprehensions_15, comprehensions_16, comprehensions_17, comprehensions_18, comprehensions_19, comprehensions_20, comprehensions_21, comprehensions_22, comprehensions_23, comprehensions_24, comprehensions_25, comprehensions_26, comprehensions_27, comprehensions_28, comprehensions_29, comprehensions_30, comprehensions_31, comprehensions_32, comprehensions_33, comprehensions_34, comprehensions_35, comprehensions_36, comprehensions_37, comprehensions_38, comprehensions_39, comprehensions_40, comprehensions_41, comprehensions_42, comprehensions_43, comprehensions_44, comprehensions_45, comprehensions_46, comprehensions_47, comprehensions_48}
use Rattle.examples_runs.proofs.Levels.{computed, outcome_in_levels}

pub comprehensions_1-runs : comprehensions_1
unfolding outcome_in_levels
comprehensions_1-runs = computed _ _ _ _ refl

pub comprehensions_2-runs : comprehensions_2
unfolding outcome_in_levels
comprehensions_2-runs = computed _ _ _ _ refl

pub comprehensions_3-runs : comprehensions_3
unfolding outcome_in_levels
comprehensions_3-runs = computed _ _ _ _ refl

pub comprehensions_4-runs : comprehensions_4
unfolding outcome_in_levels
comprehensions_4-runs = computed _ _ _ _ refl

pub comprehensions_5-runs : comprehensions_5
unfolding outcome_in_levels
comprehensions_5-runs = computed _ _ _ _ refl

pub comprehensions_6-runs : comprehensions_6
unfolding outcome_in_levels
comprehensions_6-runs = computed _ _ _ _ refl

pub comprehensions_7-runs : comprehensions_7
unfolding outcome_in_levels
comprehensions_7-runs = computed _ _ _ _ refl

pub comprehensions_8-runs : comprehensions_8
unfolding outcome_in_levels
comprehensions_8-runs = computed _ _ _ _ refl

pub comprehensions_9-runs : comprehensions_9
unfolding outcome_in_levels
comprehensions_9-runs = computed _ _ _ _ refl

pub comprehensions_10-runs : comprehensions_10
unfolding outcome_in_levels
comprehensions_10-runs = computed _ _ _ _ refl

pub comprehensions_11-runs : comprehensions_11
unfolding outcome_in_levels
comprehensions_11-runs = computed _ _ _ _ refl

pub comprehensions_12-runs : comprehensions_12
unfolding outcome_in_levels
comprehensions_12-runs = computed _ _ _ _ refl

pub comprehensions_13-runs : comprehensions_13
unfolding outcome_in_levels
comprehensions_13-runs = computed _ _ _ _ refl

pub comprehensions_14-runs : comprehensions_14
unfolding outcome_in_levels
comprehensions_14-runs = computed _ _ _ _ refl

pub comprehensions_15-runs : comprehensions_15
unfolding outcome_in_levels
comprehensions_15-runs = computed _ _ _ _ refl

pub comprehensions_16-runs : comprehensions_16
unfolding outcome_in_levels
comprehensions_16-runs = computed _ _ _ _ refl

pub comprehensions_17-runs : comprehensions_17
unfolding outcome_in_levels
comprehensions_17-runs = computed _ _ _ _ refl

pub comprehensions_18-runs : comprehensions_18
unfolding outcome_in_levels
comprehensions_18-runs = computed _ _ _ _ refl

pub comprehensions_19-runs : comprehensions_19
unfolding outcome_in_levels
comprehensions_19-runs = computed _ _ _ _ refl

pub comprehensions_20-runs : comprehensions_20
unfolding outcome_in_levels
comprehensions_20-runs = computed _ _ _ _ refl

pub comprehensions_21-runs : comprehensions_21
unfolding outcome_in_levels
comprehensions_21-runs = computed _ _ _ _ refl

pub comprehensions_22-runs : comprehensions_22
unfolding outcome_in_levels
comprehensions_22-runs = computed _ _ _ _ refl

pub comprehensions_23-runs : comprehensions_23
unfolding outcome_in_levels
comprehensions_23-runs = computed _ _ _ _ refl

pub comprehensions_24-runs : comprehensions_24
unfolding outcome_in_levels
comprehensions_24-runs = computed _ _ _ _ refl

pub comprehensions_25-runs : comprehensions_25
unfolding outcome_in_levels
comprehensions_25-runs = computed _ _ _ _ refl

pub comprehensions_26-runs : comprehensions_26
unfolding outcome_in_levels
comprehensions_26-runs = computed _ _ _ _ refl

pub comprehensions_27-runs : comprehensions_27
unfolding outcome_in_levels
comprehensions_27-runs = computed _ _ _ _ refl

pub comprehensions_28-runs : comprehensions_28
unfolding outcome_in_levels
comprehensions_28-runs = computed _ _ _ _ refl

pub comprehensions_29-runs : comprehensions_29
unfolding outcome_in_levels
comprehensions_29-runs = computed _ _ _ _ refl

pub comprehensions_30-runs : comprehensions_30
unfolding outcome_in_levels
comprehensions_30-runs = computed _ _ _ _ refl

pub comprehensions_31-runs : comprehensions_31
unfolding outcome_in_levels
comprehensions_31-runs = computed _ _ _ _ refl

pub comprehensions_32-runs : comprehensions_32
unfolding outcome_in_levels
comprehensions_32-runs = computed _ _ _ _ refl

pub comprehensions_33-runs : comprehensions_33
unfolding outcome_in_levels
comprehensions_33-runs = computed _ _ _ _ refl

pub comprehensions_34-runs : comprehensions_34
unfolding outcome_in_levels
comprehensions_34-runs = computed _ _ _ _ refl

pub comprehensions_35-runs : comprehensions_35
unfolding outcome_in_levels
comprehensions_35-runs = computed _ _ _ _ refl

pub comprehensions_36-runs : comprehensions_36
unfolding outcome_in_levels
comprehensions_36-runs = computed _ _ _ _ refl

pub comprehensions_37-runs : comprehensions_37
unfolding outcome_in_levels
comprehensions_37-runs = computed _ _ _ _ refl

pub comprehensions_38-runs : comprehensions_38
unfolding outcome_in_levels
comprehensions_38-runs = computed _ _ _ _ refl

pub comprehensions_39-runs : comprehensions_39
unfolding outcome_in_levels
comprehensions_39-runs = computed _ _ _ _ refl

pub comprehensions_40-runs : comprehensions_40
unfolding outcome_in_levels
comprehensions_40-runs = computed _ _ _ _ refl

pub comprehensions_41-runs : comprehensions_41
unfolding outcome_in_levels
comprehensions_41-runs = computed _ _ _ _ refl

pub comprehensions_42-runs : comprehensions_42
unfolding outcome_in_levels
comprehensions_42-runs = computed _ _ _ _ refl

pub comprehensions_43-runs : comprehensions_43
unfolding outcome_in_levels
comprehensions_43-runs = computed _ _ _ _ refl

pub comprehensions_44-runs : comprehensions_44
unfolding outcome_in_levels
comprehensions_44-runs = computed _ _ _ _ refl

pub comprehensions_45-runs : comprehensions_45
unfolding outcome_in_levels
comprehensions_45-runs = computed _ _ _ _ refl

pub comprehensions_46-runs : comprehensions_46
unfolding outcome_in_levels
comprehensions_46-runs = computed _ _ _ _ refl

pub comprehensions_47-runs : comprehensions_47
unfolding outcome_in_levels
comprehensions_47-runs = computed _ _ _ _ refl

pub comprehensions_48-runs : comprehensions_48
unfolding outcome_in_levels
comprehensions_48-runs = computed _ _ _ _ refl

pub comprehensions-run : Comprehensions
comprehensions-run = (comprehensions_1-runs, comprehensions_2-runs, comprehensions_3-runs, comprehensions_4-runs, comprehensions_5-runs, comprehensions_6-runs, comprehensions_7-runs, comprehensions_8-runs, comprehensions_9-runs, comprehensions_10-runs, comprehensions_11-runs, comprehensions_12-runs, comprehensions_13-runs, comprehensions_14-runs, comprehensions_15-runs, comprehensions_16-runs, comprehensions_17-runs, comprehensions_18-runs, comprehensions_19-runs, comprehensions_20-runs, comprehensions_21-runs, comprehensions_22-runs, comprehensions_23-runs, comprehensions_24-runs, comprehensions_25-runs, comprehensions_26-runs, comprehensions_27-runs, comprehensions_28-runs, comprehensions_29-runs, comprehensions_30-runs, comprehensions_31-runs, comprehensions_32-runs, comprehensions_33-runs, comprehensions_34-runs, comprehensions_35-runs, comprehensions_36-runs, comprehensions_37-runs, comprehensions_38-runs, comprehensions_39-runs, comprehensions_40-runs, comprehensions_41-runs, comprehensions_42-runs, comprehensions_43-runs, comprehensions_44-runs, comprehensions_45-runs, comprehensions_46-runs, comprehensions_47-runs, comprehensions_48-runs)
