-- Proofs of examples, by computing. Written by expressions.escript.
use Rattle.std.proofs.Common.{refl}
use Rattle.examples_runs.specs.OtherFilters.{OtherFilters, other_filters_1, other_filters_2, other_filters_3, other_filters_4}
use Rattle.examples_runs.proofs.Levels.{computed, outcome_in_levels}

pub other_filters_1-runs : other_filters_1
unfolding outcome_in_levels
other_filters_1-runs = computed _ _ _ _ refl

pub other_filters_2-runs : other_filters_2
unfolding outcome_in_levels
other_filters_2-runs = computed _ _ _ _ refl

pub other_filters_3-runs : other_filters_3
unfolding outcome_in_levels
other_filters_3-runs = computed _ _ _ _ refl

pub other_filters_4-runs : other_filters_4
unfolding outcome_in_levels
other_filters_4-runs = computed _ _ _ _ refl

pub other_filters-run : OtherFilters
other_filters-run = (other_filters_1-runs, other_filters_2-runs, other_filters_3-runs, other_filters_4-runs)
