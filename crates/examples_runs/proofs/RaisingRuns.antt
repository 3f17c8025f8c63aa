-- Proofs of examples, by computing. Written by expressions.escript.
use Rattle.std.proofs.Common.{refl}
use Rattle.examples_runs.specs.Raising.{Raising, raising_1, raising_2, raising_3, raising_4, raising_5, raising_6, raising_7, raising_8, raising_9, raising_10, raising_11, raising_12, raising_13, raising_14}
use Rattle.examples_runs.proofs.Levels.{computed, outcome_in_levels}

pub raising_1-runs : raising_1
unfolding outcome_in_levels
raising_1-runs = computed _ _ _ _ refl

pub raising_2-runs : raising_2
unfolding outcome_in_levels
raising_2-runs = computed _ _ _ _ refl

pub raising_3-runs : raising_3
unfolding outcome_in_levels
raising_3-runs = computed _ _ _ _ refl

pub raising_4-runs : raising_4
unfolding outcome_in_levels
raising_4-runs = computed _ _ _ _ refl

pub raising_5-runs : raising_5
unfolding outcome_in_levels
raising_5-runs = computed _ _ _ _ refl

pub raising_6-runs : raising_6
unfolding outcome_in_levels
raising_6-runs = computed _ _ _ _ refl

pub raising_7-runs : raising_7
unfolding outcome_in_levels
raising_7-runs = computed _ _ _ _ refl

pub raising_8-runs : raising_8
unfolding outcome_in_levels
raising_8-runs = computed _ _ _ _ refl

pub raising_9-runs : raising_9
unfolding outcome_in_levels
raising_9-runs = computed _ _ _ _ refl

pub raising_10-runs : raising_10
unfolding outcome_in_levels
raising_10-runs = computed _ _ _ _ refl

pub raising_11-runs : raising_11
unfolding outcome_in_levels
raising_11-runs = computed _ _ _ _ refl

pub raising_12-runs : raising_12
unfolding outcome_in_levels
raising_12-runs = computed _ _ _ _ refl

pub raising_13-runs : raising_13
unfolding outcome_in_levels
raising_13-runs = computed _ _ _ _ refl

pub raising_14-runs : raising_14
unfolding outcome_in_levels
raising_14-runs = computed _ _ _ _ refl

pub raising-run : Raising
raising-run = (raising_1-runs, raising_2-runs, raising_3-runs, raising_4-runs, raising_5-runs, raising_6-runs, raising_7-runs, raising_8-runs, raising_9-runs, raising_10-runs, raising_11-runs, raising_12-runs, raising_13-runs, raising_14-runs)
