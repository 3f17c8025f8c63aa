-- Proofs of examples, by computing. Written by expressions.escript.
use Rattle.std.proofs.Common.{refl}
use Rattle.examples_runs.specs.LargeNumbers.{LargeNumbers, large_numbers_1, large_numbers_2, large_numbers_3, large_numbers_4, large_numbers_5}
use Rattle.examples_runs.proofs.Levels.{computed, outcome_in_levels}

pub large_numbers_1-runs : large_numbers_1
unfolding outcome_in_levels
large_numbers_1-runs = computed _ _ _ _ refl

pub large_numbers_2-runs : large_numbers_2
unfolding outcome_in_levels
large_numbers_2-runs = computed _ _ _ _ refl

pub large_numbers_3-runs : large_numbers_3
unfolding outcome_in_levels
large_numbers_3-runs = computed _ _ _ _ refl

pub large_numbers_4-runs : large_numbers_4
unfolding outcome_in_levels
large_numbers_4-runs = computed _ _ _ _ refl

pub large_numbers_5-runs : large_numbers_5
unfolding outcome_in_levels
large_numbers_5-runs = computed _ _ _ _ refl

pub large_numbers-run : LargeNumbers
large_numbers-run = (large_numbers_1-runs, large_numbers_2-runs, large_numbers_3-runs, large_numbers_4-runs, large_numbers_5-runs)
