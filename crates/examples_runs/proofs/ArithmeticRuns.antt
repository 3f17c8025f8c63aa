-- Proofs of examples, by computing. Written by expressions.escript.
use Rattle.std.proofs.Common.{refl}
use Rattle.examples_runs.specs.Arithmetic.{Arithmetic, arithmetic_1, arithmetic_2, arithmetic_3, arithmetic_4, arithmetic_5, arithmetic_6, arithmetic_7, arithmetic_8, arithmetic_9, arithmetic_10, arithmetic_11, arithmetic_12, arithmetic_13, arithmetic_14, arithmetic_15, arithmetic_16, arithmetic_17, arithmetic_18, arithmetic_19, arithmetic_20, arithmetic_21, arithmetic_22, arithmetic_23, arithmetic_24, arithmetic_25, arithmetic_26, arithmetic_27, arithmetic_28, arithmetic_29, arithmetic_30}
use Rattle.examples_runs.proofs.Levels.{computed, outcome_in_levels}

pub arithmetic_1-runs : arithmetic_1
unfolding outcome_in_levels
arithmetic_1-runs = computed _ _ _ _ refl

pub arithmetic_2-runs : arithmetic_2
unfolding outcome_in_levels
arithmetic_2-runs = computed _ _ _ _ refl

pub arithmetic_3-runs : arithmetic_3
unfolding outcome_in_levels
arithmetic_3-runs = computed _ _ _ _ refl

pub arithmetic_4-runs : arithmetic_4
unfolding outcome_in_levels
arithmetic_4-runs = computed _ _ _ _ refl

pub arithmetic_5-runs : arithmetic_5
unfolding outcome_in_levels
arithmetic_5-runs = computed _ _ _ _ refl

pub arithmetic_6-runs : arithmetic_6
unfolding outcome_in_levels
arithmetic_6-runs = computed _ _ _ _ refl

pub arithmetic_7-runs : arithmetic_7
unfolding outcome_in_levels
arithmetic_7-runs = computed _ _ _ _ refl

pub arithmetic_8-runs : arithmetic_8
unfolding outcome_in_levels
arithmetic_8-runs = computed _ _ _ _ refl

pub arithmetic_9-runs : arithmetic_9
unfolding outcome_in_levels
arithmetic_9-runs = computed _ _ _ _ refl

pub arithmetic_10-runs : arithmetic_10
unfolding outcome_in_levels
arithmetic_10-runs = computed _ _ _ _ refl

pub arithmetic_11-runs : arithmetic_11
unfolding outcome_in_levels
arithmetic_11-runs = computed _ _ _ _ refl

pub arithmetic_12-runs : arithmetic_12
unfolding outcome_in_levels
arithmetic_12-runs = computed _ _ _ _ refl

pub arithmetic_13-runs : arithmetic_13
unfolding outcome_in_levels
arithmetic_13-runs = computed _ _ _ _ refl

pub arithmetic_14-runs : arithmetic_14
unfolding outcome_in_levels
arithmetic_14-runs = computed _ _ _ _ refl

pub arithmetic_15-runs : arithmetic_15
unfolding outcome_in_levels
arithmetic_15-runs = computed _ _ _ _ refl

pub arithmetic_16-runs : arithmetic_16
unfolding outcome_in_levels
arithmetic_16-runs = computed _ _ _ _ refl

pub arithmetic_17-runs : arithmetic_17
unfolding outcome_in_levels
arithmetic_17-runs = computed _ _ _ _ refl

pub arithmetic_18-runs : arithmetic_18
unfolding outcome_in_levels
arithmetic_18-runs = computed _ _ _ _ refl

pub arithmetic_19-runs : arithmetic_19
unfolding outcome_in_levels
arithmetic_19-runs = computed _ _ _ _ refl

pub arithmetic_20-runs : arithmetic_20
unfolding outcome_in_levels
arithmetic_20-runs = computed _ _ _ _ refl

pub arithmetic_21-runs : arithmetic_21
unfolding outcome_in_levels
arithmetic_21-runs = computed _ _ _ _ refl

pub arithmetic_22-runs : arithmetic_22
unfolding outcome_in_levels
arithmetic_22-runs = computed _ _ _ _ refl

pub arithmetic_23-runs : arithmetic_23
unfolding outcome_in_levels
arithmetic_23-runs = computed _ _ _ _ refl

pub arithmetic_24-runs : arithmetic_24
unfolding outcome_in_levels
arithmetic_24-runs = computed _ _ _ _ refl

pub arithmetic_25-runs : arithmetic_25
unfolding outcome_in_levels
arithmetic_25-runs = computed _ _ _ _ refl

pub arithmetic_26-runs : arithmetic_26
unfolding outcome_in_levels
arithmetic_26-runs = computed _ _ _ _ refl

pub arithmetic_27-runs : arithmetic_27
unfolding outcome_in_levels
arithmetic_27-runs = computed _ _ _ _ refl

pub arithmetic_28-runs : arithmetic_28
unfolding outcome_in_levels
arithmetic_28-runs = computed _ _ _ _ refl

pub arithmetic_29-runs : arithmetic_29
unfolding outcome_in_levels
arithmetic_29-runs = computed _ _ _ _ refl

pub arithmetic_30-runs : arithmetic_30
unfolding outcome_in_levels
arithmetic_30-runs = computed _ _ _ _ refl

pub arithmetic-run : Arithmetic
arithmetic-run = (arithmetic_1-runs, arithmetic_2-runs, arithmetic_3-runs, arithmetic_4-runs, arithmetic_5-runs, arithmetic_6-runs, arithmetic_7-runs, arithmetic_8-runs, arithmetic_9-runs, arithmetic_10-runs, arithmetic_11-runs, arithmetic_12-runs, arithmetic_13-runs, arithmetic_14-runs, arithmetic_15-runs, arithmetic_16-runs, arithmetic_17-runs, arithmetic_18-runs, arithmetic_19-runs, arithmetic_20-runs, arithmetic_21-runs, arithmetic_22-runs, arithmetic_23-runs, arithmetic_24-runs, arithmetic_25-runs, arithmetic_26-runs, arithmetic_27-runs, arithmetic_28-runs, arithmetic_29-runs, arithmetic_30-runs)
