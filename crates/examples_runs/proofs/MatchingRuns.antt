-- Proofs of examples, by computing. Written by expressions.escript.
use Rattle.std.proofs.Common.{refl}
use Rattle.examples_runs.specs.Matching.{Matching, matching_1, matching_2, matching_3, matching_4, matching_5, matching_6, matching_7, matching_8, matching_9, matching_10, matching_11, matching_12, matching_13, matching_14, matching_15, matching_16, matching_17, matching_18, matching_19, matching_20, matching_21, matching_22, matching_23, matching_24, matching_25, matching_26, matching_27, matching_28, matching_29, matching_30}
use Rattle.examples_runs.proofs.Levels.{computed, outcome_in_levels}

pub matching_1-runs : matching_1
unfolding outcome_in_levels
matching_1-runs = computed _ _ _ _ refl

pub matching_2-runs : matching_2
unfolding outcome_in_levels
matching_2-runs = computed _ _ _ _ refl

pub matching_3-runs : matching_3
unfolding outcome_in_levels
matching_3-runs = computed _ _ _ _ refl

pub matching_4-runs : matching_4
unfolding outcome_in_levels
matching_4-runs = computed _ _ _ _ refl

pub matching_5-runs : matching_5
unfolding outcome_in_levels
matching_5-runs = computed _ _ _ _ refl

pub matching_6-runs : matching_6
unfolding outcome_in_levels
matching_6-runs = computed _ _ _ _ refl

pub matching_7-runs : matching_7
unfolding outcome_in_levels
matching_7-runs = computed _ _ _ _ refl

pub matching_8-runs : matching_8
unfolding outcome_in_levels
matching_8-runs = computed _ _ _ _ refl

pub matching_9-runs : matching_9
unfolding outcome_in_levels
matching_9-runs = computed _ _ _ _ refl

pub matching_10-runs : matching_10
unfolding outcome_in_levels
matching_10-runs = computed _ _ _ _ refl

pub matching_11-runs : matching_11
unfolding outcome_in_levels
matching_11-runs = computed _ _ _ _ refl

pub matching_12-runs : matching_12
unfolding outcome_in_levels
matching_12-runs = computed _ _ _ _ refl

pub matching_13-runs : matching_13
unfolding outcome_in_levels
matching_13-runs = computed _ _ _ _ refl

pub matching_14-runs : matching_14
unfolding outcome_in_levels
matching_14-runs = computed _ _ _ _ refl

pub matching_15-runs : matching_15
unfolding outcome_in_levels
matching_15-runs = computed _ _ _ _ refl

pub matching_16-runs : matching_16
unfolding outcome_in_levels
matching_16-runs = computed _ _ _ _ refl

pub matching_17-runs : matching_17
unfolding outcome_in_levels
matching_17-runs = computed _ _ _ _ refl

pub matching_18-runs : matching_18
unfolding outcome_in_levels
matching_18-runs = computed _ _ _ _ refl

pub matching_19-runs : matching_19
unfolding outcome_in_levels
matching_19-runs = computed _ _ _ _ refl

pub matching_20-runs : matching_20
unfolding outcome_in_levels
matching_20-runs = computed _ _ _ _ refl

pub matching_21-runs : matching_21
unfolding outcome_in_levels
matching_21-runs = computed _ _ _ _ refl

pub matching_22-runs : matching_22
unfolding outcome_in_levels
matching_22-runs = computed _ _ _ _ refl

pub matching_23-runs : matching_23
unfolding outcome_in_levels
matching_23-runs = computed _ _ _ _ refl

pub matching_24-runs : matching_24
unfolding outcome_in_levels
matching_24-runs = computed _ _ _ _ refl

pub matching_25-runs : matching_25
unfolding outcome_in_levels
matching_25-runs = computed _ _ _ _ refl

pub matching_26-runs : matching_26
unfolding outcome_in_levels
matching_26-runs = computed _ _ _ _ refl

pub matching_27-runs : matching_27
unfolding outcome_in_levels
matching_27-runs = computed _ _ _ _ refl

pub matching_28-runs : matching_28
unfolding outcome_in_levels
matching_28-runs = computed _ _ _ _ refl

pub matching_29-runs : matching_29
unfolding outcome_in_levels
matching_29-runs = computed _ _ _ _ refl

pub matching_30-runs : matching_30
unfolding outcome_in_levels
matching_30-runs = computed _ _ _ _ refl

pub matching-run : Matching
matching-run = (matching_1-runs, matching_2-runs, matching_3-runs, matching_4-runs, matching_5-runs, matching_6-runs, matching_7-runs, matching_8-runs, matching_9-runs, matching_10-runs, matching_11-runs, matching_12-runs, matching_13-runs, matching_14-runs, matching_15-runs, matching_16-runs, matching_17-runs, matching_18-runs, matching_19-runs, matching_20-runs, matching_21-runs, matching_22-runs, matching_23-runs, matching_24-runs, matching_25-runs, matching_26-runs, matching_27-runs, matching_28-runs, matching_29-runs, matching_30-runs)
