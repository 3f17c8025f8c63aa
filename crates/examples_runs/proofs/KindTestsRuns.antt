-- Proofs of examples, by computing. Written by expressions.escript.
use Rattle.std.proofs.Common.{refl}
use Rattle.examples_runs.specs.KindTests.{KindTests, kind_tests_1, kind_tests_2, kind_tests_3, kind_tests_4, kind_tests_5, kind_tests_6, kind_tests_7, kind_tests_8, kind_tests_9, kind_tests_10, kind_tests_11, kind_tests_12, kind_tests_13, kind_tests_14, kind_tests_15}
use Rattle.examples_runs.proofs.Levels.{computed, outcome_in_levels}

pub kind_tests_1-runs : kind_tests_1
unfolding outcome_in_levels
kind_tests_1-runs = computed _ _ _ _ refl

pub kind_tests_2-runs : kind_tests_2
unfolding outcome_in_levels
kind_tests_2-runs = computed _ _ _ _ refl

pub kind_tests_3-runs : kind_tests_3
unfolding outcome_in_levels
kind_tests_3-runs = computed _ _ _ _ refl

pub kind_tests_4-runs : kind_tests_4
unfolding outcome_in_levels
kind_tests_4-runs = computed _ _ _ _ refl

pub kind_tests_5-runs : kind_tests_5
unfolding outcome_in_levels
kind_tests_5-runs = computed _ _ _ _ refl

pub kind_tests_6-runs : kind_tests_6
unfolding outcome_in_levels
kind_tests_6-runs = computed _ _ _ _ refl

pub kind_tests_7-runs : kind_tests_7
unfolding outcome_in_levels
kind_tests_7-runs = computed _ _ _ _ refl

pub kind_tests_8-runs : kind_tests_8
unfolding outcome_in_levels
kind_tests_8-runs = computed _ _ _ _ refl

pub kind_tests_9-runs : kind_tests_9
unfolding outcome_in_levels
kind_tests_9-runs = computed _ _ _ _ refl

pub kind_tests_10-runs : kind_tests_10
unfolding outcome_in_levels
kind_tests_10-runs = computed _ _ _ _ refl

pub kind_tests_11-runs : kind_tests_11
unfolding outcome_in_levels
kind_tests_11-runs = computed _ _ _ _ refl

pub kind_tests_12-runs : kind_tests_12
unfolding outcome_in_levels
kind_tests_12-runs = computed _ _ _ _ refl

pub kind_tests_13-runs : kind_tests_13
unfolding outcome_in_levels
kind_tests_13-runs = computed _ _ _ _ refl

pub kind_tests_14-runs : kind_tests_14
unfolding outcome_in_levels
kind_tests_14-runs = computed _ _ _ _ refl

pub kind_tests_15-runs : kind_tests_15
unfolding outcome_in_levels
kind_tests_15-runs = computed _ _ _ _ refl

pub kind_tests-run : KindTests
kind_tests-run = (kind_tests_1-runs, kind_tests_2-runs, kind_tests_3-runs, kind_tests_4-runs, kind_tests_5-runs, kind_tests_6-runs, kind_tests_7-runs, kind_tests_8-runs, kind_tests_9-runs, kind_tests_10-runs, kind_tests_11-runs, kind_tests_12-runs, kind_tests_13-runs, kind_tests_14-runs, kind_tests_15-runs)
