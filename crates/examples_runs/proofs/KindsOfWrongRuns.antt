-- Proofs of the examples that stand in no group, by computing.
use Rattle.std.proofs.Common.{refl}
use Rattle.examples_runs.specs.KindsOfWrong.{arity_of_no_number, arity_below_zero, absent_function, absent_arity, absent_named_fun, absent_built_in, field_of_another_record, change_of_no_tuple, absent_record, absent_field_of_a_new_record, absent_field_of_a_changed_record, absent_field, unbound_variable, after_behind_wrong, wrong_after_part, part_behind_wrong}
use Rattle.examples_runs.proofs.Levels.{computed, outcome_in_levels}

pub arity_of_no_number-runs : arity_of_no_number
unfolding outcome_in_levels
arity_of_no_number-runs = computed _ _ _ _ refl

pub arity_below_zero-runs : arity_below_zero
unfolding outcome_in_levels
arity_below_zero-runs = computed _ _ _ _ refl

pub absent_function-runs : absent_function
unfolding outcome_in_levels
absent_function-runs = computed _ _ _ _ refl

pub absent_arity-runs : absent_arity
unfolding outcome_in_levels
absent_arity-runs = computed _ _ _ _ refl

pub absent_named_fun-runs : absent_named_fun
unfolding outcome_in_levels
absent_named_fun-runs = computed _ _ _ _ refl

pub absent_built_in-runs : absent_built_in
unfolding outcome_in_levels
absent_built_in-runs = computed _ _ _ _ refl

pub field_of_another_record-runs : field_of_another_record
unfolding outcome_in_levels
field_of_another_record-runs = computed _ _ _ _ refl

pub change_of_no_tuple-runs : change_of_no_tuple
unfolding outcome_in_levels
change_of_no_tuple-runs = computed _ _ _ _ refl

pub absent_record-runs : absent_record
unfolding outcome_in_levels
absent_record-runs = computed _ _ _ _ refl

pub absent_field_of_a_new_record-runs : absent_field_of_a_new_record
unfolding outcome_in_levels
absent_field_of_a_new_record-runs = computed _ _ _ _ refl

pub absent_field_of_a_changed_record-runs : absent_field_of_a_changed_record
unfolding outcome_in_levels
absent_field_of_a_changed_record-runs = computed _ _ _ _ refl

pub absent_field-runs : absent_field
unfolding outcome_in_levels
absent_field-runs = computed _ _ _ _ refl

pub unbound_variable-runs : unbound_variable
unfolding outcome_in_levels
unbound_variable-runs = computed _ _ _ _ refl

pub after_behind_wrong-runs : after_behind_wrong
unfolding outcome_in_levels
after_behind_wrong-runs = computed _ _ _ _ refl

pub wrong_after_part-runs : wrong_after_part
unfolding outcome_in_levels
wrong_after_part-runs = computed _ _ _ _ refl

pub part_behind_wrong-runs : part_behind_wrong
unfolding outcome_in_levels
part_behind_wrong-runs = computed _ _ _ _ refl
