-- Proofs of examples, by computing. Written by expressions.escript.
use Rattle.std.proofs.Common.{refl}
use Rattle.examples_runs.specs.Scopes.{Scopes, scopes_1, scopes_2, scopes_3, scopes_4, scopes_5, scopes_6, scopes_7, scopes_8, scopes_9, scopes_10, scopes_11, scopes_12, scopes_13, scopes_14, scopes_15, scopes_16}
use Rattle.examples_runs.proofs.Levels.{computed, outcome_in_levels}

pub scopes_1-runs : scopes_1
unfolding outcome_in_levels
scopes_1-runs = computed _ _ _ _ refl

pub scopes_2-runs : scopes_2
unfolding outcome_in_levels
scopes_2-runs = computed _ _ _ _ refl

pub scopes_3-runs : scopes_3
unfolding outcome_in_levels
scopes_3-runs = computed _ _ _ _ refl

pub scopes_4-runs : scopes_4
unfolding outcome_in_levels
scopes_4-runs = computed _ _ _ _ refl

pub scopes_5-runs : scopes_5
unfolding outcome_in_levels
scopes_5-runs = computed _ _ _ _ refl

pub scopes_6-runs : scopes_6
unfolding outcome_in_levels
scopes_6-runs = computed _ _ _ _ refl

pub scopes_7-runs : scopes_7
unfolding outcome_in_levels
scopes_7-runs = computed _ _ _ _ refl

pub scopes_8-runs : scopes_8
unfolding outcome_in_levels
scopes_8-runs = computed _ _ _ _ refl

pub scopes_9-runs : scopes_9
unfolding outcome_in_levels
scopes_9-runs = computed _ _ _ _ refl

pub scopes_10-runs : scopes_10
unfolding outcome_in_levels
scopes_10-runs = computed _ _ _ _ refl

pub scopes_11-runs : scopes_11
unfolding outcome_in_levels
scopes_11-runs = computed _ _ _ _ refl

pub scopes_12-runs : scopes_12
unfolding outcome_in_levels
scopes_12-runs = computed _ _ _ _ refl

pub scopes_13-runs : scopes_13
unfolding outcome_in_levels
scopes_13-runs = computed _ _ _ _ refl

pub scopes_14-runs : scopes_14
unfolding outcome_in_levels
scopes_14-runs = computed _ _ _ _ refl

pub scopes_15-runs : scopes_15
unfolding outcome_in_levels
scopes_15-runs = computed _ _ _ _ refl

pub scopes_16-runs : scopes_16
unfolding outcome_in_levels
scopes_16-runs = computed _ _ _ _ refl

pub scopes-run : Scopes
scopes-run = (scopes_1-runs, scopes_2-runs, scopes_3-runs, scopes_4-runs, scopes_5-runs, scopes_6-runs, scopes_7-runs, scopes_8-runs, scopes_9-runs, scopes_10-runs, scopes_11-runs, scopes_12-runs, scopes_13-runs, scopes_14-runs, scopes_15-runs, scopes_16-runs)
