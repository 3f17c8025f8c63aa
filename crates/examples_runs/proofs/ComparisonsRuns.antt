-- Proofs of examples, by computing. Written by expressions.escript.
use Rattle.std.proofs.Common.{refl}
use Rattle.examples_runs.specs.Comparisons.{Comparisons, comparisons_1, comparisons_2, comparisons_3, comparisons_4, comparisons_5, comparisons_6, comparisons_7, comparisons_8, comparisons_9, comparisons_10, comparisons_11, comparisons_12, comparisons_13, comparisons_14, comparisons_15, comparisons_16, comparisons_17, comparisons_18, comparisons_19, comparisons_20, comparisons_21, comparisons_22, comparisons_23, comparisons_24, comparisons_25, comparisons_26, comparisons_27, comparisons_28, comparisons_29, comparisons_30, comparisons_31, comparisons_32, comparisons_33, comparisons_34, comparisons_35, comparisons_36, comparisons_37, comparisons_38, comparisons_39, comparisons_40, comparisons_41, comparisons_42, comparisons_43, comparisons_44, comparisons_45, comparisons_46, comparisons_47, comparisons_48, comparisons_49}
use Rattle.examples_runs.proofs.Levels.{computed, outcome_in_levels}

pub comparisons_1-runs : comparisons_1
unfolding outcome_in_levels
comparisons_1-runs = computed _ _ _ _ refl

pub comparisons_2-runs : comparisons_2
unfolding outcome_in_levels
comparisons_2-runs = computed _ _ _ _ refl

pub comparisons_3-runs : comparisons_3
unfolding outcome_in_levels
comparisons_3-runs = computed _ _ _ _ refl

pub comparisons_4-runs : comparisons_4
unfolding outcome_in_levels
comparisons_4-runs = computed _ _ _ _ refl

pub comparisons_5-runs : comparisons_5
unfolding outcome_in_levels
comparisons_5-runs = computed _ _ _ _ refl

pub comparisons_6-runs : comparisons_6
unfolding outcome_in_levels
comparisons_6-runs = computed _ _ _ _ refl

pub comparisons_7-runs : comparisons_7
unfolding outcome_in_levels
comparisons_7-runs = computed _ _ _ _ refl

pub comparisons_8-runs : comparisons_8
unfolding outcome_in_levels
comparisons_8-runs = computed _ _ _ _ refl

pub comparisons_9-runs : comparisons_9
unfolding outcome_in_levels
comparisons_9-runs = computed _ _ _ _ refl

pub comparisons_10-runs : comparisons_10
unfolding outcome_in_levels
comparisons_10-runs = computed _ _ _ _ refl

pub comparisons_11-runs : comparisons_11
unfolding outcome_in_levels
comparisons_11-runs = computed _ _ _ _ refl

pub comparisons_12-runs : comparisons_12
unfolding outcome_in_levels
comparisons_12-runs = computed _ _ _ _ refl

pub comparisons_13-runs : comparisons_13
unfolding outcome_in_levels
comparisons_13-runs = computed _ _ _ _ refl

pub comparisons_14-runs : comparisons_14
unfolding outcome_in_levels
comparisons_14-runs = computed _ _ _ _ refl

pub comparisons_15-runs : comparisons_15
unfolding outcome_in_levels
comparisons_15-runs = computed _ _ _ _ refl

pub comparisons_16-runs : comparisons_16
unfolding outcome_in_levels
comparisons_16-runs = computed _ _ _ _ refl

pub comparisons_17-runs : comparisons_17
unfolding outcome_in_levels
comparisons_17-runs = computed _ _ _ _ refl

pub comparisons_18-runs : comparisons_18
unfolding outcome_in_levels
comparisons_18-runs = computed _ _ _ _ refl

pub comparisons_19-runs : comparisons_19
unfolding outcome_in_levels
comparisons_19-runs = computed _ _ _ _ refl

pub comparisons_20-runs : comparisons_20
unfolding outcome_in_levels
comparisons_20-runs = computed _ _ _ _ refl

pub comparisons_21-runs : comparisons_21
unfolding outcome_in_levels
comparisons_21-runs = computed _ _ _ _ refl

pub comparisons_22-runs : comparisons_22
unfolding outcome_in_levels
comparisons_22-runs = computed _ _ _ _ refl

pub comparisons_23-runs : comparisons_23
unfolding outcome_in_levels
comparisons_23-runs = computed _ _ _ _ refl

pub comparisons_24-runs : comparisons_24
unfolding outcome_in_levels
comparisons_24-runs = computed _ _ _ _ refl

pub comparisons_25-runs : comparisons_25
unfolding outcome_in_levels
comparisons_25-runs = computed _ _ _ _ refl

pub comparisons_26-runs : comparisons_26
unfolding outcome_in_levels
comparisons_26-runs = computed _ _ _ _ refl

pub comparisons_27-runs : comparisons_27
unfolding outcome_in_levels
comparisons_27-runs = computed _ _ _ _ refl

pub comparisons_28-runs : comparisons_28
unfolding outcome_in_levels
comparisons_28-runs = computed _ _ _ _ refl

pub comparisons_29-runs : comparisons_29
unfolding outcome_in_levels
comparisons_29-runs = computed _ _ _ _ refl

pub comparisons_30-runs : comparisons_30
unfolding outcome_in_levels
comparisons_30-runs = computed _ _ _ _ refl

pub comparisons_31-runs : comparisons_31
unfolding outcome_in_levels
comparisons_31-runs = computed _ _ _ _ refl

pub comparisons_32-runs : comparisons_32
unfolding outcome_in_levels
comparisons_32-runs = computed _ _ _ _ refl

pub comparisons_33-runs : comparisons_33
unfolding outcome_in_levels
comparisons_33-runs = computed _ _ _ _ refl

pub comparisons_34-runs : comparisons_34
unfolding outcome_in_levels
comparisons_34-runs = computed _ _ _ _ refl

pub comparisons_35-runs : comparisons_35
unfolding outcome_in_levels
comparisons_35-runs = computed _ _ _ _ refl

pub comparisons_36-runs : comparisons_36
unfolding outcome_in_levels
comparisons_36-runs = computed _ _ _ _ refl

pub comparisons_37-runs : comparisons_37
unfolding outcome_in_levels
comparisons_37-runs = computed _ _ _ _ refl

pub comparisons_38-runs : comparisons_38
unfolding outcome_in_levels
comparisons_38-runs = computed _ _ _ _ refl

pub comparisons_39-runs : comparisons_39
unfolding outcome_in_levels
comparisons_39-runs = computed _ _ _ _ refl

pub comparisons_40-runs : comparisons_40
unfolding outcome_in_levels
comparisons_40-runs = computed _ _ _ _ refl

pub comparisons_41-runs : comparisons_41
unfolding outcome_in_levels
comparisons_41-runs = computed _ _ _ _ refl

pub comparisons_42-runs : comparisons_42
unfolding outcome_in_levels
comparisons_42-runs = computed _ _ _ _ refl

pub comparisons_43-runs : comparisons_43
unfolding outcome_in_levels
comparisons_43-runs = computed _ _ _ _ refl

pub comparisons_44-runs : comparisons_44
unfolding outcome_in_levels
comparisons_44-runs = computed _ _ _ _ refl

pub comparisons_45-runs : comparisons_45
unfolding outcome_in_levels
comparisons_45-runs = computed _ _ _ _ refl

pub comparisons_46-runs : comparisons_46
unfolding outcome_in_levels
comparisons_46-runs = computed _ _ _ _ refl

pub comparisons_47-runs : comparisons_47
unfolding outcome_in_levels
comparisons_47-runs = computed _ _ _ _ refl

pub comparisons_48-runs : comparisons_48
unfolding outcome_in_levels
comparisons_48-runs = computed _ _ _ _ refl

pub comparisons_49-runs : comparisons_49
unfolding outcome_in_levels
comparisons_49-runs = computed _ _ _ _ refl

pub comparisons-run : Comparisons
comparisons-run = (comparisons_1-runs, comparisons_2-runs, comparisons_3-runs, comparisons_4-runs, comparisons_5-runs, comparisons_6-runs, comparisons_7-runs, comparisons_8-runs, comparisons_9-runs, comparisons_10-runs, comparisons_11-runs, comparisons_12-runs, comparisons_13-runs, comparisons_14-runs, comparisons_15-runs, comparisons_16-runs, comparisons_17-runs, comparisons_18-runs, comparisons_19-runs, comparisons_20-runs, comparisons_21-runs, comparisons_22-runs, comparisons_23-runs, comparisons_24-runs, comparisons_25-runs, comparisons_26-runs, comparisons_27-runs, comparisons_28-runs, comparisons_29-runs, comparisons_30-runs, comparisons_31-runs, comparisons_32-runs, comparisons_33-runs, comparisons_34-runs, comparisons_35-runs, comparisons_36-runs, comparisons_37-runs, comparisons_38-runs, comparisons_39-runs, comparisons_40-runs, comparisons_41-runs, comparisons_42-runs, comparisons_43-runs, comparisons_44-runs, comparisons_45-runs, comparisons_46-runs, comparisons_47-runs, comparisons_48-runs, comparisons_49-runs)
