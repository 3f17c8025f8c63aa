-- Proofs of examples, by computing. Written by expressions.escript.
use Rattle.std.proofs.Common.{refl}
use Rattle.examples_runs.specs.Funs.{Funs, funs_1, funs_2, funs_3, funs_4, funs_5, funs_6, funs_7, funs_8, funs_9, funs_10, funs_11, funs_12, funs_13, funs_14, funs_15, funs_16, funs_17, funs_18, funs_19, funs_20, funs_21, funs_22, funs_23, funs_24, funs_25, funs_26, funs_27, funs_28, funs_29, funs_30, funs_31, funs_32, funs_33}
use Rattle.examples_runs.proofs.Levels.{computed, outcome_in_levels}

pub funs_1-runs : funs_1
unfolding outcome_in_levels
funs_1-runs = computed _ _ _ _ refl

pub funs_2-runs : funs_2
unfolding outcome_in_levels
funs_2-runs = computed _ _ _ _ refl

pub funs_3-runs : funs_3
unfolding outcome_in_levels
funs_3-runs = computed _ _ _ _ refl

pub funs_4-runs : funs_4
unfolding outcome_in_levels
funs_4-runs = computed _ _ _ _ refl

pub funs_5-runs : funs_5
unfolding outcome_in_levels
funs_5-runs = computed _ _ _ _ refl

pub funs_6-runs : funs_6
unfolding outcome_in_levels
funs_6-runs = computed _ _ _ _ refl

pub funs_7-runs : funs_7
unfolding outcome_in_levels
funs_7-runs = computed _ _ _ _ refl

pub funs_8-runs : funs_8
unfolding outcome_in_levels
funs_8-runs = computed _ _ _ _ refl

pub funs_9-runs : funs_9
unfolding outcome_in_levels
funs_9-runs = computed _ _ _ _ refl

pub funs_10-runs : funs_10
unfolding outcome_in_levels
funs_10-runs = computed _ _ _ _ refl

pub funs_11-runs : funs_11
unfolding outcome_in_levels
funs_11-runs = computed _ _ _ _ refl

pub funs_12-runs : funs_12
unfolding outcome_in_levels
funs_12-runs = computed _ _ _ _ refl

pub funs_13-runs : funs_13
unfolding outcome_in_levels
funs_13-runs = computed _ _ _ _ refl

pub funs_14-runs : funs_14
unfolding outcome_in_levels
funs_14-runs = computed _ _ _ _ refl

pub funs_15-runs : funs_15
unfolding outcome_in_levels
funs_15-runs = computed _ _ _ _ refl

pub funs_16-runs : funs_16
unfolding outcome_in_levels
funs_16-runs = computed _ _ _ _ refl

pub funs_17-runs : funs_17
unfolding outcome_in_levels
funs_17-runs = computed _ _ _ _ refl

pub funs_18-runs : funs_18
unfolding outcome_in_levels
funs_18-runs = computed _ _ _ _ refl

pub funs_19-runs : funs_19
unfolding outcome_in_levels
funs_19-runs = computed _ _ _ _ refl

pub funs_20-runs : funs_20
unfolding outcome_in_levels
funs_20-runs = computed _ _ _ _ refl

pub funs_21-runs : funs_21
unfolding outcome_in_levels
funs_21-runs = computed _ _ _ _ refl

pub funs_22-runs : funs_22
unfolding outcome_in_levels
funs_22-runs = computed _ _ _ _ refl

pub funs_23-runs : funs_23
unfolding outcome_in_levels
funs_23-runs = computed _ _ _ _ refl

pub funs_24-runs : funs_24
unfolding outcome_in_levels
funs_24-runs = computed _ _ _ _ refl

pub funs_25-runs : funs_25
unfolding outcome_in_levels
funs_25-runs = computed _ _ _ _ refl

pub funs_26-runs : funs_26
unfolding outcome_in_levels
funs_26-runs = computed _ _ _ _ refl

pub funs_27-runs : funs_27
unfolding outcome_in_levels
funs_27-runs = computed _ _ _ _ refl

pub funs_28-runs : funs_28
unfolding outcome_in_levels
funs_28-runs = computed _ _ _ _ refl

pub funs_29-runs : funs_29
unfolding outcome_in_levels
funs_29-runs = computed _ _ _ _ refl

pub funs_30-runs : funs_30
unfolding outcome_in_levels
funs_30-runs = computed _ _ _ _ refl

pub funs_31-runs : funs_31
unfolding outcome_in_levels
funs_31-runs = computed _ _ _ _ refl

pub funs_32-runs : funs_32
unfolding outcome_in_levels
funs_32-runs = computed _ _ _ _ refl

pub funs_33-runs : funs_33
unfolding outcome_in_levels
funs_33-runs = computed _ _ _ _ refl

pub funs-run : Funs
funs-run = (funs_1-runs, funs_2-runs, funs_3-runs, funs_4-runs, funs_5-runs, funs_6-runs, funs_7-runs, funs_8-runs, funs_9-runs, funs_10-runs, funs_11-runs, funs_12-runs, funs_13-runs, funs_14-runs, funs_15-runs, funs_16-runs, funs_17-runs, funs_18-runs, funs_19-runs, funs_20-runs, funs_21-runs, funs_22-runs, funs_23-runs, funs_24-runs, funs_25-runs, funs_26-runs, funs_27-runs, funs_28-runs, funs_29-runs, funs_30-runs, funs_31-runs, funs_32-runs, funs_33-runs)
