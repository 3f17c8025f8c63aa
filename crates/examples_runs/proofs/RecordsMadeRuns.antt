-- Proofs of examples, by computing. Written by expressions.escript.
use Rattle.std.proofs.Common.{refl}
use Rattle.examples_runs.specs.RecordsMade.{RecordsMade, records_made_1, records_made_2, records_made_3, records_made_4, records_made_5, records_made_6, records_made_7, records_made_8, records_made_9, records_made_10, records_made_11, records_made_12, records_made_13, records_made_14, records_made_15, records_made_16, records_made_17, records_made_18, records_made_19, records_made_20, records_made_21, records_made_22, records_made_23, records_made_24, records_made_25, records_made_26, records_made_27, records_made_28, records_made_29, records_made_30, records_made_31}
use Rattle.examples_runs.proofs.Levels.{computed, outcome_in_levels}

pub records_made_1-runs : records_made_1
unfolding outcome_in_levels
records_made_1-runs = computed _ _ _ _ refl

pub records_made_2-runs : records_made_2
unfolding outcome_in_levels
records_made_2-runs = computed _ _ _ _ refl

pub records_made_3-runs : records_made_3
unfolding outcome_in_levels
records_made_3-runs = computed _ _ _ _ refl

pub records_made_4-runs : records_made_4
unfolding outcome_in_levels
records_made_4-runs = computed _ _ _ _ refl

pub records_made_5-runs : records_made_5
unfolding outcome_in_levels
records_made_5-runs = computed _ _ _ _ refl

pub records_made_6-runs : records_made_6
unfolding outcome_in_levels
records_made_6-runs = computed _ _ _ _ refl

pub records_made_7-runs : records_made_7
unfolding outcome_in_levels
records_made_7-runs = computed _ _ _ _ refl

pub records_made_8-runs : records_made_8
unfolding outcome_in_levels
records_made_8-runs = computed _ _ _ _ refl

pub records_made_9-runs : records_made_9
unfolding outcome_in_levels
records_made_9-runs = computed _ _ _ _ refl

pub records_made_10-runs : records_made_10
unfolding outcome_in_levels
records_made_10-runs = computed _ _ _ _ refl

pub records_made_11-runs : records_made_11
unfolding outcome_in_levels
records_made_11-runs = computed _ _ _ _ refl

pub records_made_12-runs : records_made_12
unfolding outcome_in_levels
records_made_12-runs = computed _ _ _ _ refl

pub records_made_13-runs : records_made_13
unfolding outcome_in_levels
records_made_13-runs = computed _ _ _ _ refl

pub records_made_14-runs : records_made_14
unfolding outcome_in_levels
records_made_14-runs = computed _ _ _ _ refl

pub records_made_15-runs : records_made_15
unfolding outcome_in_levels
records_made_15-runs = computed _ _ _ _ refl

pub records_made_16-runs : records_made_16
unfolding outcome_in_levels
records_made_16-runs = computed _ _ _ _ refl

pub records_made_17-runs : records_made_17
unfolding outcome_in_levels
records_made_17-runs = computed _ _ _ _ refl

pub records_made_18-runs : records_made_18
unfolding outcome_in_levels
records_made_18-runs = computed _ _ _ _ refl

pub records_made_19-runs : records_made_19
unfolding outcome_in_levels
records_made_19-runs = computed _ _ _ _ refl

pub records_made_20-runs : records_made_20
unfolding outcome_in_levels
records_made_20-runs = computed _ _ _ _ refl

pub records_made_21-runs : records_made_21
unfolding outcome_in_levels
records_made_21-runs = computed _ _ _ _ refl

pub records_made_22-runs : records_made_22
unfolding outcome_in_levels
records_made_22-runs = computed _ _ _ _ refl

pub records_made_23-runs : records_made_23
unfolding outcome_in_levels
records_made_23-runs = computed _ _ _ _ refl

pub records_made_24-runs : records_made_24
unfolding outcome_in_levels
records_made_24-runs = computed _ _ _ _ refl

pub records_made_25-runs : records_made_25
unfolding outcome_in_levels
records_made_25-runs = computed _ _ _ _ refl

pub records_made_26-runs : records_made_26
unfolding outcome_in_levels
records_made_26-runs = computed _ _ _ _ refl

pub records_made_27-runs : records_made_27
unfolding outcome_in_levels
records_made_27-runs = computed _ _ _ _ refl

pub records_made_28-runs : records_made_28
unfolding outcome_in_levels
records_made_28-runs = computed _ _ _ _ refl

pub records_made_29-runs : records_made_29
unfolding outcome_in_levels
records_made_29-runs = computed _ _ _ _ refl

pub records_made_30-runs : records_made_30
unfolding outcome_in_levels
records_made_30-runs = computed _ _ _ _ refl

pub records_made_31-runs : records_made_31
unfolding outcome_in_levels
records_made_31-runs = computed _ _ _ _ refl

pub records_made-run : RecordsMade
records_made-run = (records_made_1-runs, records_made_2-runs, records_made_3-runs, records_made_4-runs, records_made_5-runs, records_made_6-runs, records_made_7-runs, records_made_8-runs, records_made_9-runs, records_made_10-runs, records_made_11-runs, records_made_12-runs, records_made_13-runs, records_made_14-runs, records_made_15-runs, records_made_16-runs, records_made_17-runs, records_made_18-runs, records_made_19-runs, records_made_20-runs, records_made_21-runs, records_made_22-runs, records_made_23-runs, records_made_24-runs, records_made_25-runs, records_made_26-runs, records_made_27-runs, records_made_28-runs, records_made_29-runs, records_made_30-runs, records_made_31-runs)
