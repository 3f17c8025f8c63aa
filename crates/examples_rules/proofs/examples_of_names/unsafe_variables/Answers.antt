use Rattle.examples_rules.proofs.ScopeExamples.{unsafe_variables-bound_in_a_case, unsafe_variables-not_behind_a_case, unsafe_variables-case_of, unsafe_variables-if_end, unsafe_variables-begin_end, unsafe_variables-try_end, unsafe_variables-met, unsafe_variables-behind_in_a_tuple, unsafe_variables-before_in_a_tuple, unsafe_variables-bound_behind_its_use, unsafe_variables-bound_outside, unsafe_variables-number_outside, unsafe_variables-bound_anew, unsafe_variables-number_anew, unsafe_variables-fun_end, unsafe_variables-comprehension}
use Rattle.examples_rules.proofs.examples_of_names.unsafe_variables.Goals as goal

pub returns-clause-bound_in_a_case : goal.returns-clause-bound_in_a_case
returns-clause-bound_in_a_case c = unsafe_variables-bound_in_a_case

pub returns-clause-not_behind_a_case : goal.returns-clause-not_behind_a_case
returns-clause-not_behind_a_case c = unsafe_variables-not_behind_a_case

pub returns-clause-case_of : goal.returns-clause-case_of
returns-clause-case_of c = unsafe_variables-case_of

pub returns-clause-if_end : goal.returns-clause-if_end
returns-clause-if_end c = unsafe_variables-if_end

pub returns-clause-begin_end : goal.returns-clause-begin_end
returns-clause-begin_end c = unsafe_variables-begin_end

pub returns-clause-try_end : goal.returns-clause-try_end
returns-clause-try_end c = unsafe_variables-try_end

pub returns-clause-met : goal.returns-clause-met
returns-clause-met c = unsafe_variables-met

pub returns-clause-behind_in_a_tuple : goal.returns-clause-behind_in_a_tuple
returns-clause-behind_in_a_tuple c = unsafe_variables-behind_in_a_tuple

pub returns-clause-before_in_a_tuple : goal.returns-clause-before_in_a_tuple
returns-clause-before_in_a_tuple c = unsafe_variables-before_in_a_tuple

pub returns-clause-bound_behind_its_use : goal.returns-clause-bound_behind_its_use
returns-clause-bound_behind_its_use c = unsafe_variables-bound_behind_its_use

pub returns-clause-bound_outside : goal.returns-clause-bound_outside
returns-clause-bound_outside c = unsafe_variables-bound_outside

pub returns-clause-number_outside : goal.returns-clause-number_outside
returns-clause-number_outside c = unsafe_variables-number_outside

pub returns-clause-bound_anew : goal.returns-clause-bound_anew
returns-clause-bound_anew c = unsafe_variables-bound_anew

pub returns-clause-number_anew : goal.returns-clause-number_anew
returns-clause-number_anew c = unsafe_variables-number_anew

pub returns-clause-fun_end : goal.returns-clause-fun_end
returns-clause-fun_end c = unsafe_variables-fun_end

pub returns-clause-comprehension : goal.returns-clause-comprehension
returns-clause-comprehension c = unsafe_variables-comprehension
