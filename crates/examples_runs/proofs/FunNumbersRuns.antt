-- Proofs of examples, by computing. Written by expressions.escript.
use Rattle.std.proofs.Common.{refl}
use Rattle.examples_runs.specs.FunNumbers.{FunNumbers, fun_numbers_1, fun_numbers_2, fun_numbers_3, fun_numbers_4, fun_numbers_5, fun_numbers_6, fun_numbers_7, fun_numbers_8, fun_numbers_9, fun_numbers_10, fun_numbers_11, fun_numbers_12, fun_numbers_13, fun_numbers_14, fun_numbers_15, fun_numbers_16, fun_numbers_17, fun_numbers_18, fun_numbers_19, fun_numbers_20, fun_numbers_21, fun_numbers_22, fun_numbers_23}
use Rattle.examples_runs.proofs.Levels.{computed, outcome_in_levels}

pub fun_numbers_1-runs : fun_numbers_1
unfolding outcome_in_levels
fun_numbers_1-runs = computed _ _ _ _ refl

pub fun_numbers_2-runs : fun_numbers_2
unfolding outcome_in_levels
fun_numbers_2-runs = computed _ _ _ _ refl

pub fun_numbers_3-runs : fun_numbers_3
unfolding outcome_in_levels
fun_numbers_3-runs = computed _ _ _ _ refl

pub fun_numbers_4-runs : fun_numbers_4
unfolding outcome_in_levels
fun_numbers_4-runs = computed _ _ _ _ refl

pub fun_numbers_5-runs : fun_numbers_5
unfolding outcome_in_levels
fun_numbers_5-runs = computed _ _ _ _ refl

pub fun_numbers_6-runs : fun_numbers_6
unfolding outcome_in_levels
fun_numbers_6-runs = computed _ _ _ _ refl

pub fun_numbers_7-runs : fun_numbers_7
unfolding outcome_in_levels
fun_numbers_7-runs = computed _ _ _ _ refl

pub fun_numbers_8-runs : fun_numbers_8
unfolding outcome_in_levels
fun_numbers_8-runs = computed _ _ _ _ refl

pub fun_numbers_9-runs : fun_numbers_9
unfolding outcome_in_levels
fun_numbers_9-runs = computed _ _ _ _ refl

pub fun_numbers_10-runs : fun_numbers_10
unfolding outcome_in_levels
fun_numbers_10-runs = computed _ _ _ _ refl

pub fun_numbers_11-runs : fun_numbers_11
unfolding outcome_in_levels
fun_numbers_11-runs = computed _ _ _ _ refl

pub fun_numbers_12-runs : fun_numbers_12
unfolding outcome_in_levels
fun_numbers_12-runs = computed _ _ _ _ refl

pub fun_numbers_13-runs : fun_numbers_13
unfolding outcome_in_levels
fun_numbers_13-runs = computed _ _ _ _ refl

pub fun_numbers_14-runs : fun_numbers_14
unfolding outcome_in_levels
fun_numbers_14-runs = computed _ _ _ _ refl

pub fun_numbers_15-runs : fun_numbers_15
unfolding outcome_in_levels
fun_numbers_15-runs = computed _ _ _ _ refl

pub fun_numbers_16-runs : fun_numbers_16
unfolding outcome_in_levels
fun_numbers_16-runs = computed _ _ _ _ refl

pub fun_numbers_17-runs : fun_numbers_17
unfolding outcome_in_levels
fun_numbers_17-runs = computed _ _ _ _ refl

pub fun_numbers_18-runs : fun_numbers_18
unfolding outcome_in_levels
fun_numbers_18-runs = computed _ _ _ _ refl

pub fun_numbers_19-runs : fun_numbers_19
unfolding outcome_in_levels
fun_numbers_19-runs = computed _ _ _ _ refl

pub fun_numbers_20-runs : fun_numbers_20
unfolding outcome_in_levels
fun_numbers_20-runs = computed _ _ _ _ refl

pub fun_numbers_21-runs : fun_numbers_21
unfolding outcome_in_levels
fun_numbers_21-runs = computed _ _ _ _ refl

pub fun_numbers_22-runs : fun_numbers_22
unfolding outcome_in_levels
fun_numbers_22-runs = computed _ _ _ _ refl

pub fun_numbers_23-runs : fun_numbers_23
unfolding outcome_in_levels
fun_numbers_23-runs = computed _ _ _ _ refl

pub fun_numbers-run : FunNumbers
fun_numbers-run = (fun_numbers_1-runs, fun_numbers_2-runs, fun_numbers_3-runs, fun_numbers_4-runs, fun_numbers_5-runs, fun_numbers_6-runs, fun_numbers_7-runs, fun_numbers_8-runs, fun_numbers_9-runs, fun_numbers_10-runs, fun_numbers_11-runs, fun_numbers_12-runs, fun_numbers_13-runs, fun_numbers_14-runs, fun_numbers_15-runs, fun_numbers_16-runs, fun_numbers_17-runs, fun_numbers_18-runs, fun_numbers_19-runs, fun_numbers_20-runs, fun_numbers_21-runs, fun_numbers_22-runs, fun_numbers_23-runs)
