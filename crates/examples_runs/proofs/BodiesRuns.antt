-- Proofs of examples, by computing. Written by expressions.escript.
use Rattle.std.proofs.Common.{refl}
use Rattle.examples_runs.specs.Bodies.{Bodies, bodies_1, bodies_2, bodies_3, bodies_4, bodies_5, bodies_6, bodies_7, bodies_8, bodies_9, bodies_10, bodies_11, bodies_12, bodies_13, bodies_14, bodies_15, bodies_16, bodies_17}
use Rattle.examples_runs.proofs.Levels.{computed, outcome_in_levels}

pub bodies_1-runs : bodies_1
unfolding outcome_in_levels
bodies_1-runs = computed _ _ _ _ refl

pub bodies_2-runs : bodies_2
unfolding outcome_in_levels
bodies_2-runs = computed _ _ _ _ refl

pub bodies_3-runs : bodies_3
unfolding outcome_in_levels
bodies_3-runs = computed _ _ _ _ refl

pub bodies_4-runs : bodies_4
unfolding outcome_in_levels
bodies_4-runs = computed _ _ _ _ refl

pub bodies_5-runs : bodies_5
unfolding outcome_in_levels
bodies_5-runs = computed _ _ _ _ refl

pub bodies_6-runs : bodies_6
unfolding outcome_in_levels
bodies_6-runs = computed _ _ _ _ refl

pub bodies_7-runs : bodies_7
unfolding outcome_in_levels
bodies_7-runs = computed _ _ _ _ refl

pub bodies_8-runs : bodies_8
unfolding outcome_in_levels
bodies_8-runs = computed _ _ _ _ refl

pub bodies_9-runs : bodies_9
unfolding outcome_in_levels
bodies_9-runs = computed _ _ _ _ refl

pub bodies_10-runs : bodies_10
unfolding outcome_in_levels
bodies_10-runs = computed _ _ _ _ refl

pub bodies_11-runs : bodies_11
unfolding outcome_in_levels
bodies_11-runs = computed _ _ _ _ refl

pub bodies_12-runs : bodies_12
unfolding outcome_in_levels
bodies_12-runs = computed _ _ _ _ refl

pub bodies_13-runs : bodies_13
unfolding outcome_in_levels
bodies_13-runs = computed _ _ _ _ refl

pub bodies_14-runs : bodies_14
unfolding outcome_in_levels
bodies_14-runs = computed _ _ _ _ refl

pub bodies_15-runs : bodies_15
unfolding outcome_in_levels
bodies_15-runs = computed _ _ _ _ refl

pub bodies_16-runs : bodies_16
unfolding outcome_in_levels
bodies_16-runs = computed _ _ _ _ refl

pub bodies_17-runs : bodies_17
unfolding outcome_in_levels
bodies_17-runs = computed _ _ _ _ refl

pub bodies-run : Bodies
bodies-run = (bodies_1-runs, bodies_2-runs, bodies_3-runs, bodies_4-runs, bodies_5-runs, bodies_6-runs, bodies_7-runs, bodies_8-runs, bodies_9-runs, bodies_10-runs, bodies_11-runs, bodies_12-runs, bodies_13-runs, bodies_14-runs, bodies_15-runs, bodies_16-runs, bodies_17-runs)
