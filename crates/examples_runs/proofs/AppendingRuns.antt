-- Proofs of examples, by computing. Written by expressions.escript.
use Rattle.std.proofs.Common.{refl}
use Rattle.examples_runs.specs.Appending.{Appending, appending_1, appending_2, appending_3, appending_4, appending_5, appending_6, appending_7, appending_8, appending_9, appending_10, appending_11}
use Rattle.examples_runs.proofs.Levels.{computed, outcome_in_levels}

pub appending_1-runs : appending_1
unfolding outcome_in_levels
appending_1-runs = computed _ _ _ _ refl

pub appending_2-runs : appending_2
unfolding outcome_in_levels
appending_2-runs = computed _ _ _ _ refl

pub appending_3-runs : appending_3
unfolding outcome_in_levels
appending_3-runs = computed _ _ _ _ refl

pub appending_4-runs : appending_4
unfolding outcome_in_levels
appending_4-runs = computed _ _ _ _ refl

pub appending_5-runs : appending_5
unfolding outcome_in_levels
appending_5-runs = computed _ _ _ _ refl

pub appending_6-runs : appending_6
unfolding outcome_in_levels
appending_6-runs = computed _ _ _ _ refl

pub appending_7-runs : appending_7
unfolding outcome_in_levels
appending_7-runs = computed _ _ _ _ refl

pub appending_8-runs : appending_8
unfolding outcome_in_levels
appending_8-runs = computed _ _ _ _ refl

pub appending_9-runs : appending_9
unfolding outcome_in_levels
appending_9-runs = computed _ _ _ _ refl

pub appending_10-runs : appending_10
unfolding outcome_in_levels
appending_10-runs = computed _ _ _ _ refl

pub appending_11-runs : appending_11
unfolding outcome_in_levels
appending_11-runs = computed _ _ _ _ refl

pub appending-run : Appending
appending-run = (appending_1-runs, appending_2-runs, appending_3-runs, appending_4-runs, appending_5-runs, appending_6-runs, appending_7-runs, appending_8-runs, appending_9-runs, appending_10-runs, appending_11-runs)
