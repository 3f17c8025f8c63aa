-- Proofs of examples, by computing. Written by expressions.escript.
use Rattle.std.proofs.Common.{refl}
use Rattle.examples_runs.specs.Functions.{Functions, functions_1, functions_2, functions_3, functions_4, functions_5, functions_6, functions_7, functions_8, functions_9, functions_10, functions_11, functions_12, functions_13, functions_14, functions_15, functions_16, functions_17, functions_18}
use Rattle.examples_runs.proofs.Levels.{computed, outcome_in_levels}

pub functions_1-runs : functions_1
unfolding outcome_in_levels
functions_1-runs = computed _ _ _ _ refl

pub functions_2-runs : functions_2
unfolding outcome_in_levels
functions_2-runs = computed _ _ _ _ refl

pub functions_3-runs : functions_3
unfolding outcome_in_levels
functions_3-runs = computed _ _ _ _ refl

pub functions_4-runs : functions_4
unfolding outcome_in_levels
functions_4-runs = computed _ _ _ _ refl

pub functions_5-runs : functions_5
unfolding outcome_in_levels
functions_5-runs = computed _ _ _ _ refl

pub functions_6-runs : functions_6
unfolding outcome_in_levels
functions_6-runs = computed _ _ _ _ refl

pub functions_7-runs : functions_7
unfolding outcome_in_levels
functions_7-runs = computed _ _ _ _ refl

pub functions_8-runs : functions_8
unfolding outcome_in_levels
functions_8-runs = computed _ _ _ _ refl

pub functions_9-runs : functions_9
unfolding outcome_in_levels
functions_9-runs = computed _ _ _ _ refl

pub functions_10-runs : functions_10
unfolding outcome_in_levels
functions_10-runs = computed _ _ _ _ refl

pub functions_11-runs : functions_11
unfolding outcome_in_levels
functions_11-runs = computed _ _ _ _ refl

pub functions_12-runs : functions_12
unfolding outcome_in_levels
functions_12-runs = computed _ _ _ _ refl

pub functions_13-runs : functions_13
unfolding outcome_in_levels
functions_13-runs = computed _ _ _ _ refl

pub functions_14-runs : functions_14
unfolding outcome_in_levels
functions_14-runs = computed _ _ _ _ refl

pub functions_15-runs : functions_15
unfolding outcome_in_levels
functions_15-runs = computed _ _ _ _ refl

pub functions_16-runs : functions_16
unfolding outcome_in_levels
functions_16-runs = computed _ _ _ _ refl

pub functions_17-runs : functions_17
unfolding outcome_in_levels
functions_17-runs = computed _ _ _ _ refl

pub functions_18-runs : functions_18
unfolding outcome_in_levels
functions_18-runs = computed _ _ _ _ refl

pub functions-run : Functions
functions-run = (functions_1-runs, functions_2-runs, functions_3-runs, functions_4-runs, functions_5-runs, functions_6-runs, functions_7-runs, functions_8-runs, functions_9-runs, functions_10-runs, functions_11-runs, functions_12-runs, functions_13-runs, functions_14-runs, functions_15-runs, functions_16-runs, functions_17-runs, functions_18-runs)
