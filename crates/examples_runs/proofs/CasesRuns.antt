-- Proofs of examples, by computing. Written by expressions.escript.
use Rattle.std.proofs.Common.{refl}
use Rattle.examples_runs.specs.Cases.{Cases, cases_1, cases_2, cases_3, cases_4, cases_5, cases_6, cases_7, cases_8, cases_9, cases_10, cases_11, cases_12, cases_13, cases_14, cases_15, cases_16, cases_17, cases_18, cases_19}
use Rattle.examples_runs.proofs.Levels.{computed, outcome_in_levels}

pub cases_1-runs : cases_1
unfolding outcome_in_levels
cases_1-runs = computed _ _ _ _ refl

pub cases_2-runs : cases_2
unfolding outcome_in_levels
cases_2-runs = computed _ _ _ _ refl

pub cases_3-runs : cases_3
unfolding outcome_in_levels
cases_3-runs = computed _ _ _ _ refl

pub cases_4-runs : cases_4
unfolding outcome_in_levels
cases_4-runs = computed _ _ _ _ refl

pub cases_5-runs : cases_5
unfolding outcome_in_levels
cases_5-runs = computed _ _ _ _ refl

pub cases_6-runs : cases_6
unfolding outcome_in_levels
cases_6-runs = computed _ _ _ _ refl

pub cases_7-runs : cases_7
unfolding outcome_in_levels
cases_7-runs = computed _ _ _ _ refl

pub cases_8-runs : cases_8
unfolding outcome_in_levels
cases_8-runs = computed _ _ _ _ refl

pub cases_9-runs : cases_9
unfolding outcome_in_levels
cases_9-runs = computed _ _ _ _ refl

pub cases_10-runs : cases_10
unfolding outcome_in_levels
cases_10-runs = computed _ _ _ _ refl

pub cases_11-runs : cases_11
unfolding outcome_in_levels
cases_11-runs = computed _ _ _ _ refl

pub cases_12-runs : cases_12
unfolding outcome_in_levels
cases_12-runs = computed _ _ _ _ refl

pub cases_13-runs : cases_13
unfolding outcome_in_levels
cases_13-runs = computed _ _ _ _ refl

pub cases_14-runs : cases_14
unfolding outcome_in_levels
cases_14-runs = computed _ _ _ _ refl

pub cases_15-runs : cases_15
unfolding outcome_in_levels
cases_15-runs = computed _ _ _ _ refl

pub cases_16-runs : cases_16
unfolding outcome_in_levels
cases_16-runs = computed _ _ _ _ refl

pub cases_17-runs : cases_17
unfolding outcome_in_levels
cases_17-runs = computed _ _ _ _ refl

pub cases_18-runs : cases_18
unfolding outcome_in_levels
cases_18-runs = computed _ _ _ _ refl

pub cases_19-runs : cases_19
unfolding outcome_in_levels
cases_19-runs = computed _ _ _ _ refl

pub cases-run : Cases
cases-run = (cases_1-runs, cases_2-runs, cases_3-runs, cases_4-runs, cases_5-runs, cases_6-runs, cases_7-runs, cases_8-runs, cases_9-runs, cases_10-runs, cases_11-runs, cases_12-runs, cases_13-runs, cases_14-runs, cases_15-runs, cases_16-runs, cases_17-runs, cases_18-runs, cases_19-runs)
