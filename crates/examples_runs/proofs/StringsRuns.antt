-- Proofs of examples, by computing. Written by expressions.escript.
use Rattle.std.proofs.Common.{refl}
use Rattle.examples_runs.specs.Strings.{Strings, strings_1, strings_2, strings_3, strings_4, strings_5, strings_6, strings_7, strings_8, strings_9, strings_10, strings_11, strings_12, strings_13, strings_14}
use Rattle.examples_runs.proofs.Levels.{computed, outcome_in_levels}

pub strings_1-runs : strings_1
unfolding outcome_in_levels
strings_1-runs = computed _ _ _ _ refl

pub strings_2-runs : strings_2
unfolding outcome_in_levels
strings_2-runs = computed _ _ _ _ refl

pub strings_3-runs : strings_3
unfolding outcome_in_levels
strings_3-runs = computed _ _ _ _ refl

pub strings_4-runs : strings_4
unfolding outcome_in_levels
strings_4-runs = computed _ _ _ _ refl

pub strings_5-runs : strings_5
unfolding outcome_in_levels
strings_5-runs = computed _ _ _ _ refl

pub strings_6-runs : strings_6
unfolding outcome_in_levels
strings_6-runs = computed _ _ _ _ refl

pub strings_7-runs : strings_7
unfolding outcome_in_levels
strings_7-runs = computed _ _ _ _ refl

pub strings_8-runs : strings_8
unfolding outcome_in_levels
strings_8-runs = computed _ _ _ _ refl

pub strings_9-runs : strings_9
unfolding outcome_in_levels
strings_9-runs = computed _ _ _ _ refl

pub strings_10-runs : strings_10
unfolding outcome_in_levels
strings_10-runs = computed _ _ _ _ refl

pub strings_11-runs : strings_11
unfolding outcome_in_levels
strings_11-runs = computed _ _ _ _ refl

pub strings_12-runs : strings_12
unfolding outcome_in_levels
strings_12-runs = computed _ _ _ _ refl

pub strings_13-runs : strings_13
unfolding outcome_in_levels
strings_13-runs = computed _ _ _ _ refl

pub strings_14-runs : strings_14
unfolding outcome_in_levels
strings_14-runs = computed _ _ _ _ refl

pub strings-run : Strings
strings-run = (strings_1-runs, strings_2-runs, strings_3-runs, strings_4-runs, strings_5-runs, strings_6-runs, strings_7-runs, strings_8-runs, strings_9-runs, strings_10-runs, strings_11-runs, strings_12-runs, strings_13-runs, strings_14-runs)
