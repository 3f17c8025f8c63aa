-- Proofs of examples, by computing. Written by expressions.escript.
use Rattle.std.proofs.Common.{refl}
use Rattle.examples_runs.specs.ListsAndTuples.{ListsAndTuples, lists_and_tuples_1, lists_and_tuples_2, lists_and_tuples_3, lists_and_tuples_4, lists_and_tuples_5, lists_and_tuples_6, lists_and_tuples_7, lists_and_tuples_8, lists_and_tuples_9, lists_and_tuples_10, lists_and_tuples_11}
use Rattle.examples_runs.proofs.Levels.{computed, outcome_in_levels}

pub lists_and_tuples_1-runs : lists_and_tuples_1
unfolding outcome_in_levels
lists_and_tuples_1-runs = computed _ _ _ _ refl

pub lists_and_tuples_2-runs : lists_and_tuples_2
unfolding outcome_in_levels
lists_and_tuples_2-runs = computed _ _ _ _ refl

pub lists_and_tuples_3-runs : lists_and_tuples_3
unfolding outcome_in_levels
lists_and_tuples_3-runs = computed _ _ _ _ refl

pub lists_and_tuples_4-runs : lists_and_tuples_4
unfolding outcome_in_levels
lists_and_tuples_4-runs = computed _ _ _ _ refl

pub lists_and_tuples_5-runs : lists_and_tuples_5
unfolding outcome_in_levels
lists_and_tuples_5-runs = computed _ _ _ _ refl

pub lists_and_tuples_6-runs : lists_and_tuples_6
unfolding outcome_in_levels
lists_and_tuples_6-runs = computed _ _ _ _ refl

pub lists_and_tuples_7-runs : lists_and_tuples_7
unfolding outcome_in_levels
lists_and_tuples_7-runs = computed _ _ _ _ refl

pub lists_and_tuples_8-runs : lists_and_tuples_8
unfolding outcome_in_levels
lists_and_tuples_8-runs = computed _ _ _ _ refl

pub lists_and_tuples_9-runs : lists_and_tuples_9
unfolding outcome_in_levels
lists_and_tuples_9-runs = computed _ _ _ _ refl

pub lists_and_tuples_10-runs : lists_and_tuples_10
unfolding outcome_in_levels
lists_and_tuples_10-runs = computed _ _ _ _ refl

pub lists_and_tuples_11-runs : lists_and_tuples_11
unfolding outcome_in_levels
lists_and_tuples_11-runs = computed _ _ _ _ refl

pub lists_and_tuples-run : ListsAndTuples
lists_and_tuples-run = (lists_and_tuples_1-runs, lists_and_tuples_2-runs, lists_and_tuples_3-runs, lists_and_tuples_4-runs, lists_and_tuples_5-runs, lists_and_tuples_6-runs, lists_and_tuples_7-runs, lists_and_tuples_8-runs, lists_and_tuples_9-runs, lists_and_tuples_10-runs, lists_and_tuples_11-runs)
