-- Proofs of examples, by computing. Written by expressions.escript.
use Rattle.std.proofs.Common.{refl}
use Rattle.examples_runs.specs.OtherScopes.{OtherScopes, other_scopes_1, other_scopes_2, other_scopes_3, other_scopes_4, other_scopes_5, other_scopes_6, other_scopes_7, other_scopes_8, other_scopes_9, other_scopes_10, other_scopes_11}
use Rattle.examples_runs.proofs.Levels.{computed, outcome_in_levels}

pub other_scopes_1-runs : other_scopes_1
unfolding outcome_in_levels
other_scopes_1-runs = computed _ _ _ _ refl

pub other_scopes_2-runs : other_scopes_2
unfolding outcome_in_levels
other_scopes_2-runs = computed _ _ _ _ refl

pub other_scopes_3-runs : other_scopes_3
unfolding outcome_in_levels
other_scopes_3-runs = computed _ _ _ _ refl

pub other_scopes_4-runs : other_scopes_4
unfolding outcome_in_levels
other_scopes_4-runs = computed _ _ _ _ refl

pub other_scopes_5-runs : other_scopes_5
unfolding outcome_in_levels
other_scopes_5-runs = computed _ _ _ _ refl

pub other_scopes_6-runs : other_scopes_6
unfolding outcome_in_levels
other_scopes_6-runs = computed _ _ _ _ refl

pub other_scopes_7-runs : other_scopes_7
unfolding outcome_in_levels
other_scopes_7-runs = computed _ _ _ _ refl

pub other_scopes_8-runs : other_scopes_8
unfolding outcome_in_levels
other_scopes_8-runs = computed _ _ _ _ refl

pub other_scopes_9-runs : other_scopes_9
unfolding outcome_in_levels
other_scopes_9-runs = computed _ _ _ _ refl

pub other_scopes_10-runs : other_scopes_10
unfolding outcome_in_levels
other_scopes_10-runs = computed _ _ _ _ refl

pub other_scopes_11-runs : other_scopes_11
unfolding outcome_in_levels
other_scopes_11-runs = computed _ _ _ _ refl

pub other_scopes-run : OtherScopes
other_scopes-run = (other_scopes_1-runs, other_scopes_2-runs, other_scopes_3-runs, other_scopes_4-runs, other_scopes_5-runs, other_scopes_6-runs, other_scopes_7-runs, other_scopes_8-runs, other_scopes_9-runs, other_scopes_10-runs, other_scopes_11-runs)
