-- Proofs of the examples that stand in no group, by computing.
use Rattle.std.proofs.Common.{refl}
use Rattle.examples_runs.specs.ConstructsThatReturn.{an_atom, an_integer, a_fun_by_name, a_fun_expression}
use Rattle.examples_runs.proofs.Levels.{computed, outcome_in_levels}

pub an_atom-runs : an_atom
unfolding outcome_in_levels
an_atom-runs = computed _ _ _ _ refl

pub an_integer-runs : an_integer
unfolding outcome_in_levels
an_integer-runs = computed _ _ _ _ refl

pub a_fun_by_name-runs : a_fun_by_name
unfolding outcome_in_levels
a_fun_by_name-runs = computed _ _ _ _ refl

pub a_fun_expression-runs : a_fun_expression
unfolding outcome_in_levels
a_fun_expression-runs = computed _ _ _ _ refl
