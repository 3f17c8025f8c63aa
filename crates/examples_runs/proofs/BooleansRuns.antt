-- Proofs of examples, by computing. Written by expressions.escript.
use Rattle.std.proofs.Common.{refl}
use Rattle.examples_runs.specs.Booleans.{Booleans, booleans_1, booleans_2, booleans_3, booleans_4, booleans_5, booleans_6, booleans_7, booleans_8, booleans_9, booleans_10, booleans_11, booleans_12, booleans_13, booleans_14, booleans_15, booleans_16, booleans_17, booleans_18, booleans_19, booleans_20, booleans_21, booleans_22, booleans_23, booleans_24, booleans_25, booleans_26, booleans_27}
use Rattle.examples_runs.proofs.Levels.{computed, outcome_in_levels}

pub booleans_1-runs : booleans_1
unfolding outcome_in_levels
booleans_1-runs = computed _ _ _ _ refl

pub booleans_2-runs : booleans_2
unfolding outcome_in_levels
booleans_2-runs = computed _ _ _ _ refl

pub booleans_3-runs : booleans_3
unfolding outcome_in_levels
booleans_3-runs = computed _ _ _ _ refl

pub booleans_4-runs : booleans_4
unfolding outcome_in_levels
booleans_4-runs = computed _ _ _ _ refl

pub booleans_5-runs : booleans_5
unfolding outcome_in_levels
booleans_5-runs = computed _ _ _ _ refl

pub booleans_6-runs : booleans_6
unfolding outcome_in_levels
booleans_6-runs = computed _ _ _ _ refl

pub booleans_7-runs : booleans_7
unfolding outcome_in_levels
booleans_7-runs = computed _ _ _ _ refl

pub booleans_8-runs : booleans_8
unfolding outcome_in_levels
booleans_8-runs = computed _ _ _ _ refl

pub booleans_9-runs : booleans_9
unfolding outcome_in_levels
booleans_9-runs = computed _ _ _ _ refl

pub booleans_10-runs : booleans_10
unfolding outcome_in_levels
booleans_10-runs = computed _ _ _ _ refl

pub booleans_11-runs : booleans_11
unfolding outcome_in_levels
booleans_11-runs = computed _ _ _ _ refl

pub booleans_12-runs : booleans_12
unfolding outcome_in_levels
booleans_12-runs = computed _ _ _ _ refl

pub booleans_13-runs : booleans_13
unfolding outcome_in_levels
booleans_13-runs = computed _ _ _ _ refl

pub booleans_14-runs : booleans_14
unfolding outcome_in_levels
booleans_14-runs = computed _ _ _ _ refl

pub booleans_15-runs : booleans_15
unfolding outcome_in_levels
booleans_15-runs = computed _ _ _ _ refl

pub booleans_16-runs : booleans_16
unfolding outcome_in_levels
booleans_16-runs = computed _ _ _ _ refl

pub booleans_17-runs : booleans_17
unfolding outcome_in_levels
booleans_17-runs = computed _ _ _ _ refl

pub booleans_18-runs : booleans_18
unfolding outcome_in_levels
booleans_18-runs = computed _ _ _ _ refl

pub booleans_19-runs : booleans_19
unfolding outcome_in_levels
booleans_19-runs = computed _ _ _ _ refl

pub booleans_20-runs : booleans_20
unfolding outcome_in_levels
booleans_20-runs = computed _ _ _ _ refl

pub booleans_21-runs : booleans_21
unfolding outcome_in_levels
booleans_21-runs = computed _ _ _ _ refl

pub booleans_22-runs : booleans_22
unfolding outcome_in_levels
booleans_22-runs = computed _ _ _ _ refl

pub booleans_23-runs : booleans_23
unfolding outcome_in_levels
booleans_23-runs = computed _ _ _ _ refl

pub booleans_24-runs : booleans_24
unfolding outcome_in_levels
booleans_24-runs = computed _ _ _ _ refl

pub booleans_25-runs : booleans_25
unfolding outcome_in_levels
booleans_25-runs = computed _ _ _ _ refl

pub booleans_26-runs : booleans_26
unfolding outcome_in_levels
booleans_26-runs = computed _ _ _ _ refl

pub booleans_27-runs : booleans_27
unfolding outcome_in_levels
booleans_27-runs = computed _ _ _ _ refl

pub booleans-run : Booleans
booleans-run = (booleans_1-runs, booleans_2-runs, booleans_3-runs, booleans_4-runs, booleans_5-runs, booleans_6-runs, booleans_7-runs, booleans_8-runs, booleans_9-runs, booleans_10-runs, booleans_11-runs, booleans_12-runs, booleans_13-runs, booleans_14-runs, booleans_15-runs, booleans_16-runs, booleans_17-runs, booleans_18-runs, booleans_19-runs, booleans_20-runs, booleans_21-runs, booleans_22-runs, booleans_23-runs, booleans_24-runs, booleans_25-runs, booleans_26-runs, booleans_27-runs)
