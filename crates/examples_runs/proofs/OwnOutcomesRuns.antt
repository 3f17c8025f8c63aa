-- Proofs of examples, by computing. Written by expressions.escript.
use Rattle.std.proofs.Common.{refl}
use Rattle.examples_runs.specs.OwnOutcomes.{OwnOutcomes, own_outcomes_1, own_outcomes_2, own_outcomes_3, own_outcomes_4, own_outcomes_5, own_outcomes_6, own_outcomes_7, own_outcomes_8, own_outcomes_9, own_outcomes_10, own_outcomes_11, own_outcomes_12, own_outcomes_13, own_outcomes_14, own_outcomes_15, own_outcomes_16, own_outcomes_17, own_outcomes_18, own_outcomes_19, own_outcomes_20, own_outcomes_21, own_outcomes_22, own_outcomes_23, own_outcomes_24, own_outcomes_25, own_outcomes_26, own_outcomes_27, own_outcomes_28, own_outcomes_29, own_outcomes_30, own_outcomes_31, own_outcomes_32, own_outcomes_33, own_outcomes_34, own_outcomes_35, own_outcomes_36, own_outcomes_37, own_outcomes_38, own_outcomes_39, own_outcomes_40, own_outcomes_41, own_outcomes_42, own_outcomes_43, own_outcomes_44, own_outcomes_45, own_outcomes_46, own_outcomes_47, own_outcomes_48, own_outcomes_49, own_outcomes_50, own_outcomes_51, own_outcomes_52, own_outcomes_53, own_outcomes_54, own_outcomes_55}
use Rattle.examples_runs.proofs.Levels.{computed, outcome_in_levels}

pub own_outcomes_1-runs : own_outcomes_1
unfolding outcome_in_levels
own_outcomes_1-runs = computed _ _ _ _ refl

pub own_outcomes_2-runs : own_outcomes_2
unfolding outcome_in_levels
own_outcomes_2-runs = computed _ _ _ _ refl

pub own_outcomes_3-runs : own_outcomes_3
unfolding outcome_in_levels
own_outcomes_3-runs = computed _ _ _ _ refl

pub own_outcomes_4-runs : own_outcomes_4
unfolding outcome_in_levels
own_outcomes_4-runs = computed _ _ _ _ refl

pub own_outcomes_5-runs : own_outcomes_5
unfolding outcome_in_levels
own_outcomes_5-runs = computed _ _ _ _ refl

pub own_outcomes_6-runs : own_outcomes_6
unfolding outcome_in_levels
own_outcomes_6-runs = computed _ _ _ _ refl

pub own_outcomes_7-runs : own_outcomes_7
unfolding outcome_in_levels
own_outcomes_7-runs = computed _ _ _ _ refl

pub own_outcomes_8-runs : own_outcomes_8
unfolding outcome_in_levels
own_outcomes_8-runs = computed _ _ _ _ refl

pub own_outcomes_9-runs : own_outcomes_9
unfolding outcome_in_levels
own_outcomes_9-runs = computed _ _ _ _ refl

pub own_outcomes_10-runs : own_outcomes_10
unfolding outcome_in_levels
own_outcomes_10-runs = computed _ _ _ _ refl

pub own_outcomes_11-runs : own_outcomes_11
unfolding outcome_in_levels
own_outcomes_11-runs = computed _ _ _ _ refl

pub own_outcomes_12-runs : own_outcomes_12
unfolding outcome_in_levels
own_outcomes_12-runs = computed _ _ _ _ refl

pub own_outcomes_13-runs : own_outcomes_13
unfolding outcome_in_levels
own_outcomes_13-runs = computed _ _ _ _ refl

pub own_outcomes_14-runs : own_outcomes_14
unfolding outcome_in_levels
own_outcomes_14-runs = computed _ _ _ _ refl

pub own_outcomes_15-runs : own_outcomes_15
unfolding outcome_in_levels
own_outcomes_15-runs = computed _ _ _ _ refl

pub own_outcomes_16-runs : own_outcomes_16
unfolding outcome_in_levels
own_outcomes_16-runs = computed _ _ _ _ refl

pub own_outcomes_17-runs : own_outcomes_17
unfolding outcome_in_levels
own_outcomes_17-runs = computed _ _ _ _ refl

pub own_outcomes_18-runs : own_outcomes_18
unfolding outcome_in_levels
own_outcomes_18-runs = computed _ _ _ _ refl

pub own_outcomes_19-runs : own_outcomes_19
unfolding outcome_in_levels
own_outcomes_19-runs = computed _ _ _ _ refl

pub own_outcomes_20-runs : own_outcomes_20
unfolding outcome_in_levels
own_outcomes_20-runs = computed _ _ _ _ refl

pub own_outcomes_21-runs : own_outcomes_21
unfolding outcome_in_levels
own_outcomes_21-runs = computed _ _ _ _ refl

pub own_outcomes_22-runs : own_outcomes_22
unfolding outcome_in_levels
own_outcomes_22-runs = computed _ _ _ _ refl

pub own_outcomes_23-runs : own_outcomes_23
unfolding outcome_in_levels
own_outcomes_23-runs = computed _ _ _ _ refl

pub own_outcomes_24-runs : own_outcomes_24
unfolding outcome_in_levels
own_outcomes_24-runs = computed _ _ _ _ refl

pub own_outcomes_25-runs : own_outcomes_25
unfolding outcome_in_levels
own_outcomes_25-runs = computed _ _ _ _ refl

pub own_outcomes_26-runs : own_outcomes_26
unfolding outcome_in_levels
own_outcomes_26-runs = computed _ _ _ _ refl

pub own_outcomes_27-runs : own_outcomes_27
unfolding outcome_in_levels
own_outcomes_27-runs = computed _ _ _ _ refl

pub own_outcomes_28-runs : own_outcomes_28
unfolding outcome_in_levels
own_outcomes_28-runs = computed _ _ _ _ refl

pub own_outcomes_29-runs : own_outcomes_29
unfolding outcome_in_levels
own_outcomes_29-runs = computed _ _ _ _ refl

pub own_outcomes_30-runs : own_outcomes_30
unfolding outcome_in_levels
own_outcomes_30-runs = computed _ _ _ _ refl

pub own_outcomes_31-runs : own_outcomes_31
unfolding outcome_in_levels
own_outcomes_31-runs = computed _ _ _ _ refl

pub own_outcomes_32-runs : own_outcomes_32
unfolding outcome_in_levels
own_outcomes_32-runs = computed _ _ _ _ refl

pub own_outcomes_33-runs : own_outcomes_33
unfolding outcome_in_levels
own_outcomes_33-runs = computed _ _ _ _ refl

pub own_outcomes_34-runs : own_outcomes_34
unfolding outcome_in_levels
own_outcomes_34-runs = computed _ _ _ _ refl

pub own_outcomes_35-runs : own_outcomes_35
unfolding outcome_in_levels
own_outcomes_35-runs = computed _ _ _ _ refl

pub own_outcomes_36-runs : own_outcomes_36
unfolding outcome_in_levels
own_outcomes_36-runs = computed _ _ _ _ refl

pub own_outcomes_37-runs : own_outcomes_37
unfolding outcome_in_levels
own_outcomes_37-runs = computed _ _ _ _ refl

pub own_outcomes_38-runs : own_outcomes_38
unfolding outcome_in_levels
own_outcomes_38-runs = computed _ _ _ _ refl

pub own_outcomes_39-runs : own_outcomes_39
unfolding outcome_in_levels
own_outcomes_39-runs = computed _ _ _ _ refl

pub own_outcomes_40-runs : own_outcomes_40
unfolding outcome_in_levels
own_outcomes_40-runs = computed _ _ _ _ refl

pub own_outcomes_41-runs : own_outcomes_41
unfolding outcome_in_levels
own_outcomes_41-runs = computed _ _ _ _ refl

pub own_outcomes_42-runs : own_outcomes_42
unfolding outcome_in_levels
own_outcomes_42-runs = computed _ _ _ _ refl

pub own_outcomes_43-runs : own_outcomes_43
unfolding outcome_in_levels
own_outcomes_43-runs = computed _ _ _ _ refl

pub own_outcomes_44-runs : own_outcomes_44
unfolding outcome_in_levels
own_outcomes_44-runs = computed _ _ _ _ refl

pub own_outcomes_45-runs : own_outcomes_45
unfolding outcome_in_levels
own_outcomes_45-runs = computed _ _ _ _ refl

pub own_outcomes_46-runs : own_outcomes_46
unfolding outcome_in_levels
own_outcomes_46-runs = computed _ _ _ _ refl

pub own_outcomes_47-runs : own_outcomes_47
unfolding outcome_in_levels
own_outcomes_47-runs = computed _ _ _ _ refl

pub own_outcomes_48-runs : own_outcomes_48
unfolding outcome_in_levels
own_outcomes_48-runs = computed _ _ _ _ refl

pub own_outcomes_49-runs : own_outcomes_49
unfolding outcome_in_levels
own_outcomes_49-runs = computed _ _ _ _ refl

pub own_outcomes_50-runs : own_outcomes_50
unfolding outcome_in_levels
own_outcomes_50-runs = computed _ _ _ _ refl

pub own_outcomes_51-runs : own_outcomes_51
unfolding outcome_in_levels
own_outcomes_51-runs = computed _ _ _ _ refl

pub own_outcomes_52-runs : own_outcomes_52
unfolding outcome_in_levels
own_outcomes_52-runs = computed _ _ _ _ refl

pub own_outcomes_53-runs : own_outcomes_53
unfolding outcome_in_levels
own_outcomes_53-runs = computed _ _ _ _ refl

pub own_outcomes_54-runs : own_outcomes_54
unfolding outcome_in_levels
own_outcomes_54-runs = computed _ _ _ _ refl

pub own_outcomes_55-runs : own_outcomes_55
unfolding outcome_in_levels
own_outcomes_55-runs = computed _ _ _ _ refl

pub own_outcomes-run : OwnOutcomes
own_outcomes-run = (own_outcomes_1-runs, own_outcomes_2-runs, own_outcomes_3-runs, own_outcomes_4-runs, own_outcomes_5-runs, own_outcomes_6-runs, own_outcomes_7-runs, own_outcomes_8-runs, own_outcomes_9-runs, own_outcomes_10-runs, own_outcomes_11-runs, own_outcomes_12-runs, own_outcomes_13-runs, own_outcomes_14-runs, own_outcomes_15-runs, own_outcomes_16-runs, own_outcomes_17-runs, own_outcomes_18-runs, own_outcomes_19-runs, own_outcomes_20-runs, own_outcomes_21-runs, own_outcomes_22-runs, own_outcomes_23-runs, own_outcomes_24-runs, own_outcomes_25-runs, own_outcomes_26-runs, own_outcomes_27-runs, own_outcomes_28-runs, own_outcomes_29-runs, own_outcomes_30-runs, own_outcomes_31-runs, own_outcomes_32-runs, own_outcomes_33-runs, own_outcomes_34-runs, own_outcomes_35-runs, own_outcomes_36-runs, own_outcomes_37-runs, own_outcomes_38-runs, own_outcomes_39-runs, own_outcomes_40-runs, own_outcomes_41-runs, own_outcomes_42-runs, own_outcomes_43-runs, own_outcomes_44-runs, own_outcomes_45-runs, own_outcomes_46-runs, own_outcomes_47-runs, own_outcomes_48-runs, own_outcomes_49-runs, own_outcomes_50-runs, own_outcomes_51-runs, own_outcomes_52-runs, own_outcomes_53-runs, own_outcomes_54-runs, own_outcomes_55-runs)
