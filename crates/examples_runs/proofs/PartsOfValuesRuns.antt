-- Proofs of examples, by computing. Written by expressions.escript.
use Rattle.std.proofs.Common.{refl}
use Rattle.examples_runs.specs.PartsOfValues.{PartsOfValues, parts_of_values_1, parts_of_values_2, parts_of_values_3, parts_of_values_4, parts_of_values_5, parts_of_values_6, parts_of_values_7, parts_of_values_8, parts_of_values_9, parts_of_values_10, parts_of_values_11, parts_of_values_12, parts_of_values_13, parts_of_values_14, parts_of_values_15, parts_of_values_16, parts_of_values_17, parts_of_values_18}
use Rattle.examples_runs.proofs.Levels.{computed, outcome_in_levels}

pub parts_of_values_1-runs : parts_of_values_1
unfolding outcome_in_levels
parts_of_values_1-runs = computed _ _ _ _ refl

pub parts_of_values_2-runs : parts_of_values_2
unfolding outcome_in_levels
parts_of_values_2-runs = computed _ _ _ _ refl

pub parts_of_values_3-runs : parts_of_values_3
unfolding outcome_in_levels
parts_of_values_3-runs = computed _ _ _ _ refl

pub parts_of_values_4-runs : parts_of_values_4
unfolding outcome_in_levels
parts_of_values_4-runs = computed _ _ _ _ refl

pub parts_of_values_5-runs : parts_of_values_5
unfolding outcome_in_levels
parts_of_values_5-runs = computed _ _ _ _ refl

pub parts_of_values_6-runs : parts_of_values_6
unfolding outcome_in_levels
parts_of_values_6-runs = computed _ _ _ _ refl

pub parts_of_values_7-runs : parts_of_values_7
unfolding outcome_in_levels
parts_of_values_7-runs = computed _ _ _ _ refl

pub parts_of_values_8-runs : parts_of_values_8
unfolding outcome_in_levels
parts_of_values_8-runs = computed _ _ _ _ refl

pub parts_of_values_9-runs : parts_of_values_9
unfolding outcome_in_levels
parts_of_values_9-runs = computed _ _ _ _ refl

pub parts_of_values_10-runs : parts_of_values_10
unfolding outcome_in_levels
parts_of_values_10-runs = computed _ _ _ _ refl

pub parts_of_values_11-runs : parts_of_values_11
unfolding outcome_in_levels
parts_of_values_11-runs = computed _ _ _ _ refl

pub parts_of_values_12-runs : parts_of_values_12
unfolding outcome_in_levels
parts_of_values_12-runs = computed _ _ _ _ refl

pub parts_of_values_13-runs : parts_of_values_13
unfolding outcome_in_levels
parts_of_values_13-runs = computed _ _ _ _ refl

pub parts_of_values_14-runs : parts_of_values_14
unfolding outcome_in_levels
parts_of_values_14-runs = computed _ _ _ _ refl

pub parts_of_values_15-runs : parts_of_values_15
unfolding outcome_in_levels
parts_of_values_15-runs = computed _ _ _ _ refl

pub parts_of_values_16-runs : parts_of_values_16
unfolding outcome_in_levels
parts_of_values_16-runs = computed _ _ _ _ refl

pub parts_of_values_17-runs : parts_of_values_17
unfolding outcome_in_levels
parts_of_values_17-runs = computed _ _ _ _ refl

pub parts_of_values_18-runs : parts_of_values_18
unfolding outcome_in_levels
parts_of_values_18-runs = computed _ _ _ _ refl

pub parts_of_values-run : PartsOfValues
parts_of_values-run = (parts_of_values_1-runs, parts_of_values_2-runs, parts_of_values_3-runs, parts_of_values_4-runs, parts_of_values_5-runs, parts_of_values_6-runs, parts_of_values_7-runs, parts_of_values_8-runs, parts_of_values_9-runs, parts_of_values_10-runs, parts_of_values_11-runs, parts_of_values_12-runs, parts_of_values_13-runs, parts_of_values_14-runs, parts_of_values_15-runs, parts_of_values_16-runs, parts_of_values_17-runs, parts_of_values_18-runs)
