-- Proofs of examples, by computing. Written by expressions.escript.
use Rattle.std.proofs.Common.{refl}
use Rattle.examples_runs.specs.Guards.{Guards, guards_1, guards_2, guards_3, guards_4, guards_5, guards_6, guards_7, guards_8, guards_9, guards_10, guards_11, guards_12, guards_13, guards_14, guards_15, guards_16, guards_17, guards_18, guards_19, guards_20, guards_21, guards_22, guards_23, guards_24, guards_25, guards_26, guards_27, guards_28, guards_29, guards_30, guards_31, guards_32, guards_33, guards_34, guards_35, guards_36, guards_37, guards_38, guards_39, guards_40}
use Rattle.examples_runs.proofs.Levels.{computed, outcome_in_levels}

pub guards_1-runs : guards_1
unfolding outcome_in_levels
guards_1-runs = computed _ _ _ _ refl

pub guards_2-runs : guards_2
unfolding outcome_in_levels
guards_2-runs = computed _ _ _ _ refl

pub guards_3-runs : guards_3
unfolding outcome_in_levels
guards_3-runs = computed _ _ _ _ refl

pub guards_4-runs : guards_4
unfolding outcome_in_levels
guards_4-runs = computed _ _ _ _ refl

pub guards_5-runs : guards_5
unfolding outcome_in_levels
guards_5-runs = computed _ _ _ _ refl

pub guards_6-runs : guards_6
unfolding outcome_in_levels
guards_6-runs = computed _ _ _ _ refl

pub guards_7-runs : guards_7
unfolding outcome_in_levels
guards_7-runs = computed _ _ _ _ refl

pub guards_8-runs : guards_8
unfolding outcome_in_levels
guards_8-runs = computed _ _ _ _ refl

pub guards_9-runs : guards_9
unfolding outcome_in_levels
guards_9-runs = computed _ _ _ _ refl

pub guards_10-runs : guards_10
unfolding outcome_in_levels
guards_10-runs = computed _ _ _ _ refl

pub guards_11-runs : guards_11
unfolding outcome_in_levels
guards_11-runs = computed _ _ _ _ refl

pub guards_12-runs : guards_12
unfolding outcome_in_levels
guards_12-runs = computed _ _ _ _ refl

pub guards_13-runs : guards_13
unfolding outcome_in_levels
guards_13-runs = computed _ _ _ _ refl

pub guards_14-runs : guards_14
unfolding outcome_in_levels
guards_14-runs = computed _ _ _ _ refl

pub guards_15-runs : guards_15
unfolding outcome_in_levels
guards_15-runs = computed _ _ _ _ refl

pub guards_16-runs : guards_16
unfolding outcome_in_levels
guards_16-runs = computed _ _ _ _ refl

pub guards_17-runs : guards_17
unfolding outcome_in_levels
guards_17-runs = computed _ _ _ _ refl

pub guards_18-runs : guards_18
unfolding outcome_in_levels
guards_18-runs = computed _ _ _ _ refl

pub guards_19-runs : guards_19
unfolding outcome_in_levels
guards_19-runs = computed _ _ _ _ refl

pub guards_20-runs : guards_20
unfolding outcome_in_levels
guards_20-runs = computed _ _ _ _ refl

pub guards_21-runs : guards_21
unfolding outcome_in_levels
guards_21-runs = computed _ _ _ _ refl

pub guards_22-runs : guards_22
unfolding outcome_in_levels
guards_22-runs = computed _ _ _ _ refl

pub guards_23-runs : guards_23
unfolding outcome_in_levels
guards_23-runs = computed _ _ _ _ refl

pub guards_24-runs : guards_24
unfolding outcome_in_levels
guards_24-runs = computed _ _ _ _ refl

pub guards_25-runs : guards_25
unfolding outcome_in_levels
guards_25-runs = computed _ _ _ _ refl

pub guards_26-runs : guards_26
unfolding outcome_in_levels
guards_26-runs = computed _ _ _ _ refl

pub guards_27-runs : guards_27
unfolding outcome_in_levels
guards_27-runs = computed _ _ _ _ refl

pub guards_28-runs : guards_28
unfolding outcome_in_levels
guards_28-runs = computed _ _ _ _ refl

pub guards_29-runs : guards_29
unfolding outcome_in_levels
guards_29-runs = computed _ _ _ _ refl

pub guards_30-runs : guards_30
unfolding outcome_in_levels
guards_30-runs = computed _ _ _ _ refl

pub guards_31-runs : guards_31
unfolding outcome_in_levels
guards_31-runs = computed _ _ _ _ refl

pub guards_32-runs : guards_32
unfolding outcome_in_levels
guards_32-runs = computed _ _ _ _ refl

pub guards_33-runs : guards_33
unfolding outcome_in_levels
guards_33-runs = computed _ _ _ _ refl

pub guards_34-runs : guards_34
unfolding outcome_in_levels
guards_34-runs = computed _ _ _ _ refl

pub guards_35-runs : guards_35
unfolding outcome_in_levels
guards_35-runs = computed _ _ _ _ refl

pub guards_36-runs : guards_36
unfolding outcome_in_levels
guards_36-runs = computed _ _ _ _ refl

pub guards_37-runs : guards_37
unfolding outcome_in_levels
guards_37-runs = computed _ _ _ _ refl

pub guards_38-runs : guards_38
unfolding outcome_in_levels
guards_38-runs = computed _ _ _ _ refl

pub guards_39-runs : guards_39
unfolding outcome_in_levels
guards_39-runs = computed _ _ _ _ refl

pub guards_40-runs : guards_40
unfolding outcome_in_levels
guards_40-runs = computed _ _ _ _ refl

pub guards-run : Guards
guards-run = (guards_1-runs, guards_2-runs, guards_3-runs, guards_4-runs, guards_5-runs, guards_6-runs, guards_7-runs, guards_8-runs, guards_9-runs, guards_10-runs, guards_11-runs, guards_12-runs, guards_13-runs, guards_14-runs, guards_15-runs, guards_16-runs, guards_17-runs, guards_18-runs, guards_19-runs, guards_20-runs, guards_21-runs, guards_22-runs, guards_23-runs, guards_24-runs, guards_25-runs, guards_26-runs, guards_27-runs, guards_28-runs, guards_29-runs, guards_30-runs, guards_31-runs, guards_32-runs, guards_33-runs, guards_34-runs, guards_35-runs, guards_36-runs, guards_37-runs, guards_38-runs, guards_39-runs, guards_40-runs)
