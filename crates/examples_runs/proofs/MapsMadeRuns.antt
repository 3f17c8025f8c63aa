-- Proofs of examples, by computing. Written by expressions.escript.
use Rattle.std.proofs.Common.{refl}
use Rattle.examples_runs.specs.MapsMade.{MapsMade, maps_made_1, maps_made_2, maps_made_3, maps_made_4, maps_made_5, maps_made_6, maps_made_7, maps_made_8, maps_made_9, maps_made_10, maps_made_11, maps_made_12, maps_made_13, maps_made_14, maps_made_15, maps_made_16, maps_made_17, maps_made_18, maps_made_19, maps_made_20, maps_made_21, maps_made_22, maps_made_23, maps_made_24, maps_made_25}
use Rattle.examples_runs.proofs.Levels.{computed, outcome_in_levels}

pub maps_made_1-runs : maps_made_1
unfolding outcome_in_levels
maps_made_1-runs = computed _ _ _ _ refl

pub maps_made_2-runs : maps_made_2
unfolding outcome_in_levels
maps_made_2-runs = computed _ _ _ _ refl

pub maps_made_3-runs : maps_made_3
unfolding outcome_in_levels
maps_made_3-runs = computed _ _ _ _ refl

pub maps_made_4-runs : maps_made_4
unfolding outcome_in_levels
maps_made_4-runs = computed _ _ _ _ refl

pub maps_made_5-runs : maps_made_5
unfolding outcome_in_levels
maps_made_5-runs = computed _ _ _ _ refl

pub maps_made_6-runs : maps_made_6
unfolding outcome_in_levels
maps_made_6-runs = computed _ _ _ _ refl

pub maps_made_7-runs : maps_made_7
unfolding outcome_in_levels
maps_made_7-runs = computed _ _ _ _ refl

pub maps_made_8-runs : maps_made_8
unfolding outcome_in_levels
maps_made_8-runs = computed _ _ _ _ refl

pub maps_made_9-runs : maps_made_9
unfolding outcome_in_levels
maps_made_9-runs = computed _ _ _ _ refl

pub maps_made_10-runs : maps_made_10
unfolding outcome_in_levels
maps_made_10-runs = computed _ _ _ _ refl

pub maps_made_11-runs : maps_made_11
unfolding outcome_in_levels
maps_made_11-runs = computed _ _ _ _ refl

pub maps_made_12-runs : maps_made_12
unfolding outcome_in_levels
maps_made_12-runs = computed _ _ _ _ refl

pub maps_made_13-runs : maps_made_13
unfolding outcome_in_levels
maps_made_13-runs = computed _ _ _ _ refl

pub maps_made_14-runs : maps_made_14
unfolding outcome_in_levels
maps_made_14-runs = computed _ _ _ _ refl

pub maps_made_15-runs : maps_made_15
unfolding outcome_in_levels
maps_made_15-runs = computed _ _ _ _ refl

pub maps_made_16-runs : maps_made_16
unfolding outcome_in_levels
maps_made_16-runs = computed _ _ _ _ refl

pub maps_made_17-runs : maps_made_17
unfolding outcome_in_levels
maps_made_17-runs = computed _ _ _ _ refl

pub maps_made_18-runs : maps_made_18
unfolding outcome_in_levels
maps_made_18-runs = computed _ _ _ _ refl

pub maps_made_19-runs : maps_made_19
unfolding outcome_in_levels
maps_made_19-runs = computed _ _ _ _ refl

pub maps_made_20-runs : maps_made_20
unfolding outcome_in_levels
maps_made_20-runs = computed _ _ _ _ refl

pub maps_made_21-runs : maps_made_21
unfolding outcome_in_levels
maps_made_21-runs = computed _ _ _ _ refl

pub maps_made_22-runs : maps_made_22
unfolding outcome_in_levels
maps_made_22-runs = computed _ _ _ _ refl

pub maps_made_23-runs : maps_made_23
unfolding outcome_in_levels
maps_made_23-runs = computed _ _ _ _ refl

pub maps_made_24-runs : maps_made_24
unfolding outcome_in_levels
maps_made_24-runs = computed _ _ _ _ refl

pub maps_made_25-runs : maps_made_25
unfolding outcome_in_levels
maps_made_25-runs = computed _ _ _ _ refl

pub maps_made-run : MapsMade
maps_made-run = (maps_made_1-runs, maps_made_2-runs, maps_made_3-runs, maps_made_4-runs, maps_made_5-runs, maps_made_6-runs, maps_made_7-runs, maps_made_8-runs, maps_made_9-runs, maps_made_10-runs, maps_made_11-runs, maps_made_12-runs, maps_made_13-runs, maps_made_14-runs, maps_made_15-runs, maps_made_16-runs, maps_made_17-runs, maps_made_18-runs, maps_made_19-runs, maps_made_20-runs, maps_made_21-runs, maps_made_22-runs, maps_made_23-runs, maps_made_24-runs, maps_made_25-runs)
