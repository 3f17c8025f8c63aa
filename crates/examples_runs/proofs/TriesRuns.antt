-- Proofs of examples, by computing. Written by expressions.escript.
use Rattle.std.proofs.Common.{refl}
use Rattle.examples_runs.specs.Tries.{Tries, tries_1, tries_2, tries_3, tries_4, tries_5, tries_6, tries_7, tries_8, tries_9, tries_10, tries_11, tries_12, tries_13, tries_14, tries_15, tries_16, tries_17, tries_18, tries_19, tries_20, tries_21, tries_22, tries_23, tries_24, tries_25, tries_26, tries_27, tries_28, tries_29, tries_30, tries_31, tries_32, tries_33, tries_34, tries_35, tries_36, tries_37, tries_38, tries_39, tries_40, tries_41, tries_42, tries_43, tries_44, tries_45, tries_46, tries_47, tries_48, tries_49}
use Rattle.examples_runs.proofs.Levels.{computed, outcome_in_levels}

pub tries_1-runs : tries_1
unfolding outcome_in_levels
tries_1-runs = computed _ _ _ _ refl

pub tries_2-runs : tries_2
unfolding outcome_in_levels
tries_2-runs = computed _ _ _ _ refl

pub tries_3-runs : tries_3
unfolding outcome_in_levels
tries_3-runs = computed _ _ _ _ refl

pub tries_4-runs : tries_4
unfolding outcome_in_levels
tries_4-runs = computed _ _ _ _ refl

pub tries_5-runs : tries_5
unfolding outcome_in_levels
tries_5-runs = computed _ _ _ _ refl

pub tries_6-runs : tries_6
unfolding outcome_in_levels
tries_6-runs = computed _ _ _ _ refl

pub tries_7-runs : tries_7
unfolding outcome_in_levels
tries_7-runs = computed _ _ _ _ refl

pub tries_8-runs : tries_8
unfolding outcome_in_levels
tries_8-runs = computed _ _ _ _ refl

pub tries_9-runs : tries_9
unfolding outcome_in_levels
tries_9-runs = computed _ _ _ _ refl

pub tries_10-runs : tries_10
unfolding outcome_in_levels
tries_10-runs = computed _ _ _ _ refl

pub tries_11-runs : tries_11
unfolding outcome_in_levels
tries_11-runs = computed _ _ _ _ refl

pub tries_12-runs : tries_12
unfolding outcome_in_levels
tries_12-runs = computed _ _ _ _ refl

pub tries_13-runs : tries_13
unfolding outcome_in_levels
tries_13-runs = computed _ _ _ _ refl

pub tries_14-runs : tries_14
unfolding outcome_in_levels
tries_14-runs = computed _ _ _ _ refl

pub tries_15-runs : tries_15
unfolding outcome_in_levels
tries_15-runs = computed _ _ _ _ refl

pub tries_16-runs : tries_16
unfolding outcome_in_levels
tries_16-runs = computed _ _ _ _ refl

pub tries_17-runs : tries_17
unfolding outcome_in_levels
tries_17-runs = computed _ _ _ _ refl

pub tries_18-runs : tries_18
unfolding outcome_in_levels
tries_18-runs = computed _ _ _ _ refl

pub tries_19-runs : tries_19
unfolding outcome_in_levels
tries_19-runs = computed _ _ _ _ refl

pub tries_20-runs : tries_20
unfolding outcome_in_levels
tries_20-runs = computed _ _ _ _ refl

pub tries_21-runs : tries_21
unfolding outcome_in_levels
tries_21-runs = computed _ _ _ _ refl

pub tries_22-runs : tries_22
unfolding outcome_in_levels
tries_22-runs = computed _ _ _ _ refl

pub tries_23-runs : tries_23
unfolding outcome_in_levels
tries_23-runs = computed _ _ _ _ refl

pub tries_24-runs : tries_24
unfolding outcome_in_levels
tries_24-runs = computed _ _ _ _ refl

pub tries_25-runs : tries_25
unfolding outcome_in_levels
tries_25-runs = computed _ _ _ _ refl

pub tries_26-runs : tries_26
unfolding outcome_in_levels
tries_26-runs = computed _ _ _ _ refl

pub tries_27-runs : tries_27
unfolding outcome_in_levels
tries_27-runs = computed _ _ _ _ refl

pub tries_28-runs : tries_28
unfolding outcome_in_levels
tries_28-runs = computed _ _ _ _ refl

pub tries_29-runs : tries_29
unfolding outcome_in_levels
tries_29-runs = computed _ _ _ _ refl

pub tries_30-runs : tries_30
unfolding outcome_in_levels
tries_30-runs = computed _ _ _ _ refl

pub tries_31-runs : tries_31
unfolding outcome_in_levels
tries_31-runs = computed _ _ _ _ refl

pub tries_32-runs : tries_32
unfolding outcome_in_levels
tries_32-runs = computed _ _ _ _ refl

pub tries_33-runs : tries_33
unfolding outcome_in_levels
tries_33-runs = computed _ _ _ _ refl

pub tries_34-runs : tries_34
unfolding outcome_in_levels
tries_34-runs = computed _ _ _ _ refl

pub tries_35-runs : tries_35
unfolding outcome_in_levels
tries_35-runs = computed _ _ _ _ refl

pub tries_36-runs : tries_36
unfolding outcome_in_levels
tries_36-runs = computed _ _ _ _ refl

pub tries_37-runs : tries_37
unfolding outcome_in_levels
tries_37-runs = computed _ _ _ _ refl

pub tries_38-runs : tries_38
unfolding outcome_in_levels
tries_38-runs = computed _ _ _ _ refl

pub tries_39-runs : tries_39
unfolding outcome_in_levels
tries_39-runs = computed _ _ _ _ refl

pub tries_40-runs : tries_40
unfolding outcome_in_levels
tries_40-runs = computed _ _ _ _ refl

pub tries_41-runs : tries_41
unfolding outcome_in_levels
tries_41-runs = computed _ _ _ _ refl

pub tries_42-runs : tries_42
unfolding outcome_in_levels
tries_42-runs = computed _ _ _ _ refl

pub tries_43-runs : tries_43
unfolding outcome_in_levels
tries_43-runs = computed _ _ _ _ refl

pub tries_44-runs : tries_44
unfolding outcome_in_levels
tries_44-runs = computed _ _ _ _ refl

pub tries_45-runs : tries_45
unfolding outcome_in_levels
tries_45-runs = computed _ _ _ _ refl

pub tries_46-runs : tries_46
unfolding outcome_in_levels
tries_46-runs = computed _ _ _ _ refl

pub tries_47-runs : tries_47
unfolding outcome_in_levels
tries_47-runs = computed _ _ _ _ refl

pub tries_48-runs : tries_48
unfolding outcome_in_levels
tries_48-runs = computed _ _ _ _ refl

pub tries_49-runs : tries_49
unfolding outcome_in_levels
tries_49-runs = computed _ _ _ _ refl

pub tries-run : Tries
tries-run = (tries_1-runs, tries_2-runs, tries_3-runs, tries_4-runs, tries_5-runs, tries_6-runs, tries_7-runs, tries_8-runs, tries_9-runs, tries_10-runs, tries_11-runs, tries_12-runs, tries_13-runs, tries_14-runs, tries_15-runs, tries_16-runs, tries_17-runs, tries_18-runs, tries_19-runs, tries_20-runs, tries_21-runs, tries_22-runs, tries_23-runs, tries_24-runs, tries_25-runs, tries_26-runs, tries_27-runs, tries_28-runs, tries_29-runs, tries_30-runs, tries_31-runs, tries_32-runs, tries_33-runs, tries_34-runs, tries_35-runs, tries_36-runs, tries_37-runs, tries_38-runs, tries_39-runs, tries_40-runs, tries_41-runs, tries_42-runs, tries_43-runs, tries_44-runs, tries_45-runs, tries_46-runs, tries_47-runs, tries_48-runs, tries_49-runs)
