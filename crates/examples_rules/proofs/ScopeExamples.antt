-- Small examples of names, by the equations of what stands in a node and of its faults.
use Rattle.std.proofs.Common.{◌≡◌, refl, ap, sym, subst, List, [], ◌∷◌, map, true, inl, inr}
use Rattle.std.specs.Prelude.{Some, None, false, codes, nat_eq}
use Rattle.erl_scope_rules.specs.declared.role.Role.TheVariants.{Met, Renewed}
use Rattle.erl_scope_rules.specs.declared.fault.NameFault.TheVariants.{Unbound, Unsafe, NoSuchFunction, TwoFunctions, NoSpec, NoSuchRecord, NoSuchField, Repeated, ArityDiffers}
use Rattle.erl_scope_rules.specs.declared.fault.PlacedFault.{PlacedFault}
use Rattle.erl_tree.specs.declared.form.Module.{Module}
use Rattle.erl_tree.specs.Lists.{Among, Every}
use Rattle.erl_scope_rules.specs.Bindings.{variable_number, bindings_of, binding_place}
use Rattle.erl_scope_rules.specs.ScopeFaults.{faults_of, IsFirstFault, HasRightNames, is_earlier, rank}
use Rattle.examples_rules.specs.SmallScopes.{below, in_line, fault_at, placed_fault, name_x, name_y, name_z, fun_shadows, generator_shadows, twice_in_a_head, met_again, behind_a_case, behind_an_if, behind_a_begin, behind_a_try, met_behind_a_begin, bound_outside, bound_anew, behind_in_a_tuple, before_in_a_tuple, behind_a_fun, all_parts, other_part, class_and_pattern, left_to_right, right_to_left, filtered, behind_a_comprehension, generator_met_in_the_head, another_met_in_the_head, case_clauses, function_clauses, other_function_clause, matched_by_itself, matched_before, in_text_order, two_unbound, call_before_variable, unbound, no_such_function, calls_itself, no_such_built_in, built_in_called, named_function, no_such_record, arity_differs, no_such_field, repeated_field, field_of_a_record, repeated_in_no_record, field_of_no_record, no_field_of_a_record, no_record_changed, no_field_changed, every_pattern, every_expression, every_guard, called_in_every_expression, called_in_every_construct, called_in_a_try, records_in_patterns, with_spec, without_spec, spec_alone, exporting, two_functions, default_of_a_field, built_in_defined}
use Rattle.erl_scope_rules.proofs.OccurrenceLaws.{variables_equations, part_equations}
use Rattle.erl_scope_rules.proofs.FaultLaws.{pattern_fault_equations, fault_equations}

-- ---- shadowing

pub shadowing-head_of_a_fun : variable_number fun_shadows (below 12) ≡ Some 1
shadowing-head_of_a_fun = simp (part_equations, variables_equations)

pub shadowing-body_of_a_fun : variable_number fun_shadows (below 16) ≡ Some 1
shadowing-body_of_a_fun = simp (part_equations, variables_equations)

pub shadowing-behind_a_fun : variable_number fun_shadows (below 22) ≡ Some 0
shadowing-behind_a_fun = simp (part_equations, variables_equations)

pub shadowing-no_fault_in_a_fun : faults_of fun_shadows ≡ []
shadowing-no_fault_in_a_fun = simp (part_equations, variables_equations, fault_equations, pattern_fault_equations)

pub shadowing-pattern_of_a_generator : variable_number generator_shadows (below 11) ≡ Some 1
shadowing-pattern_of_a_generator = simp (part_equations, variables_equations)

pub shadowing-head_of_a_comprehension : variable_number generator_shadows (below 8) ≡ Some 1
shadowing-head_of_a_comprehension = simp (part_equations, variables_equations)

pub shadowing-list_of_a_generator : variable_number generator_shadows (below 14) ≡ Some 0
shadowing-list_of_a_generator = simp (part_equations, variables_equations)

pub shadowing-no_fault_in_a_comprehension : faults_of generator_shadows ≡ []
shadowing-no_fault_in_a_comprehension = simp (part_equations, variables_equations, fault_equations, pattern_fault_equations)

-- ---- a name met again

pub a_name_met_again-first_of_a_row : variable_number twice_in_a_head (below 11) ≡ Some 1
a_name_met_again-first_of_a_row = simp (part_equations, variables_equations)

pub a_name_met_again-second_of_a_row : variable_number twice_in_a_head (below 13) ≡ Some 1
a_name_met_again-second_of_a_row = simp (part_equations, variables_equations)

pub a_name_met_again-behind_a_row : variable_number twice_in_a_head (below 17) ≡ Some 1
a_name_met_again-behind_a_row = simp (part_equations, variables_equations)

pub a_name_met_again-no_fault_in_a_row : faults_of twice_in_a_head ≡ []
a_name_met_again-no_fault_in_a_row = simp (part_equations, variables_equations, fault_equations, pattern_fault_equations)

pub a_name_met_again-class : variable_number class_and_pattern (below 19) ≡ Some 1
a_name_met_again-class = simp (part_equations, variables_equations)

pub a_name_met_again-pattern_behind_a_class : variable_number class_and_pattern (below 21) ≡ Some 1
a_name_met_again-pattern_behind_a_class = simp (part_equations, variables_equations)

pub a_name_met_again-behind_class_and_pattern : variable_number class_and_pattern (below 24) ≡ Some 1
a_name_met_again-behind_class_and_pattern = simp (part_equations, variables_equations)

pub a_name_met_again-no_fault_in_a_class : faults_of class_and_pattern ≡ []
a_name_met_again-no_fault_in_a_class = simp (part_equations, variables_equations, fault_equations, pattern_fault_equations)

pub a_name_met_again-in_a_match : variable_number met_again (below 7) ≡ Some 0
a_name_met_again-in_a_match = simp (part_equations, variables_equations)

pub a_name_met_again-behind_a_match : variable_number met_again (below 11) ≡ Some 0
a_name_met_again-behind_a_match = simp (part_equations, variables_equations)

pub a_name_met_again-no_fault_in_a_match : faults_of met_again ≡ []
a_name_met_again-no_fault_in_a_match = simp (part_equations, variables_equations, fault_equations, pattern_fault_equations)

-- ---- unsafe variables

pub unsafe_variables-bound_in_a_case : variable_number behind_a_case (below 20) ≡ Some 1
unsafe_variables-bound_in_a_case = simp (part_equations, variables_equations)

pub unsafe_variables-not_behind_a_case : variable_number behind_a_case (below 26) ≡ None
unsafe_variables-not_behind_a_case = simp (part_equations, variables_equations)

pub unsafe_variables-case_of : faults_of behind_a_case ≡ fault_at Unsafe 26 ∷ []
unsafe_variables-case_of = simp (part_equations, variables_equations, fault_equations, pattern_fault_equations)

pub unsafe_variables-if_end : faults_of behind_an_if ≡ fault_at Unsafe 21 ∷ []
unsafe_variables-if_end = simp (part_equations, variables_equations, fault_equations, pattern_fault_equations)

pub unsafe_variables-begin_end : faults_of behind_a_begin ≡ fault_at Unsafe 21 ∷ []
unsafe_variables-begin_end = simp (part_equations, variables_equations, fault_equations, pattern_fault_equations)

pub unsafe_variables-try_end : faults_of behind_a_try ≡ fault_at Unsafe 28 ∷ []
unsafe_variables-try_end = simp (part_equations, variables_equations, fault_equations, pattern_fault_equations)

pub unsafe_variables-met : faults_of met_behind_a_begin ≡ fault_at Unsafe 21 ∷ []
unsafe_variables-met = simp (part_equations, variables_equations, fault_equations, pattern_fault_equations)

pub unsafe_variables-behind_in_a_tuple : faults_of behind_in_a_tuple ≡ fault_at Unsafe 27 ∷ []
unsafe_variables-behind_in_a_tuple = simp (part_equations, variables_equations, fault_equations, pattern_fault_equations)

pub unsafe_variables-before_in_a_tuple : faults_of before_in_a_tuple ≡ fault_at Unbound 8 ∷ []
unsafe_variables-before_in_a_tuple = simp (part_equations, variables_equations, fault_equations, pattern_fault_equations)

pub unsafe_variables-bound_behind_its_use : variable_number before_in_a_tuple (below 20) ≡ Some 1
unsafe_variables-bound_behind_its_use = simp (part_equations, variables_equations)

pub unsafe_variables-bound_outside : faults_of bound_outside ≡ []
unsafe_variables-bound_outside = simp (part_equations, variables_equations, fault_equations, pattern_fault_equations)

pub unsafe_variables-number_outside : variable_number bound_outside (below 21) ≡ Some 0
unsafe_variables-number_outside = simp (part_equations, variables_equations)

pub unsafe_variables-bound_anew : faults_of bound_anew ≡ []
unsafe_variables-bound_anew = simp (part_equations, variables_equations, fault_equations, pattern_fault_equations)

pub unsafe_variables-number_anew : variable_number bound_anew (below 29) ≡ Some 2
unsafe_variables-number_anew = simp (part_equations, variables_equations)

pub unsafe_variables-fun_end : faults_of behind_a_fun ≡ fault_at Unbound 21 ∷ []
unsafe_variables-fun_end = simp (part_equations, variables_equations, fault_equations, pattern_fault_equations)

pub unsafe_variables-comprehension : faults_of behind_a_comprehension ≡ fault_at Unbound 17 ∷ []
unsafe_variables-comprehension = simp (part_equations, variables_equations, fault_equations, pattern_fault_equations)

-- ---- parts of a try

pub parts_of_a_try-behind_the_body : faults_of all_parts ≡ fault_at Unsafe 21 ∷ fault_at Unsafe 32 ∷ fault_at Unsafe 40 ∷ []
parts_of_a_try-behind_the_body = simp (part_equations, variables_equations, fault_equations, pattern_fault_equations)

pub parts_of_a_try-variable_of_the_body : variable_number all_parts (below 11) ≡ Some 1
parts_of_a_try-variable_of_the_body = simp (part_equations, variables_equations)

pub parts_of_a_try-variable_of_a_clause : variable_number all_parts (below 18) ≡ Some 2
parts_of_a_try-variable_of_a_clause = simp (part_equations, variables_equations)

pub parts_of_a_try-variable_of_a_catch : variable_number all_parts (below 29) ≡ Some 3
parts_of_a_try-variable_of_a_catch = simp (part_equations, variables_equations)

pub parts_of_a_try-not_seen_behind_the_body : variable_number all_parts (below 21) ≡ None
parts_of_a_try-not_seen_behind_the_body = simp (part_equations, variables_equations)

pub parts_of_a_try-beside_each_other : faults_of other_part ≡ fault_at Unbound 30 ∷ fault_at Unbound 38 ∷ []
parts_of_a_try-beside_each_other = simp (part_equations, variables_equations, fault_equations, pattern_fault_equations)

-- ---- comprehensions

pub comprehensions-first_in_the_head : variable_number left_to_right (below 9) ≡ Some 1
comprehensions-first_in_the_head = simp (part_equations, variables_equations)

pub comprehensions-second_in_the_head : variable_number left_to_right (below 11) ≡ Some 2
comprehensions-second_in_the_head = simp (part_equations, variables_equations)

pub comprehensions-list_of_the_first : variable_number left_to_right (below 18) ≡ Some 0
comprehensions-list_of_the_first = simp (part_equations, variables_equations)

pub comprehensions-list_of_the_second : variable_number left_to_right (below 23) ≡ Some 1
comprehensions-list_of_the_second = simp (part_equations, variables_equations)

pub comprehensions-no_fault : faults_of left_to_right ≡ []
comprehensions-no_fault = simp (part_equations, variables_equations, fault_equations, pattern_fault_equations)

pub comprehensions-used_too_early : faults_of right_to_left ≡ fault_at Unbound 14 ∷ []
comprehensions-used_too_early = simp (part_equations, variables_equations, fault_equations, pattern_fault_equations)

pub comprehensions-bound_first : variable_number right_to_left (below 8) ≡ Some 1
comprehensions-bound_first = simp (part_equations, variables_equations)

pub comprehensions-bound_later : variable_number right_to_left (below 16) ≡ Some 2
comprehensions-bound_later = simp (part_equations, variables_equations)

pub comprehensions-filter : variable_number filtered (below 16) ≡ Some 1
comprehensions-filter = simp (part_equations, variables_equations)

-- ---- blocks in a comprehension's head

pub blocks_in_a_head-met_in_the_head : variable_number generator_met_in_the_head (below 14) ≡ Some 1
blocks_in_a_head-met_in_the_head = simp (part_equations, variables_equations)

pub blocks_in_a_head-used_in_the_head : variable_number generator_met_in_the_head (below 18) ≡ Some 1
blocks_in_a_head-used_in_the_head = simp (part_equations, variables_equations)

pub blocks_in_a_head-pattern_of_the_generator : variable_number generator_met_in_the_head (below 25) ≡ Some 1
blocks_in_a_head-pattern_of_the_generator = simp (part_equations, variables_equations)

pub blocks_in_a_head-met_in_the_list : variable_number generator_met_in_the_head (below 35) ≡ Some 2
blocks_in_a_head-met_in_the_list = simp (part_equations, variables_equations)

pub blocks_in_a_head-used_in_the_list : variable_number generator_met_in_the_head (below 39) ≡ Some 2
blocks_in_a_head-used_in_the_list = simp (part_equations, variables_equations)

pub blocks_in_a_head-no_fault : faults_of generator_met_in_the_head ≡ []
blocks_in_a_head-no_fault = simp (part_equations, variables_equations, fault_equations, pattern_fault_equations)

pub blocks_in_a_head-another_name : faults_of another_met_in_the_head ≡ fault_at Unsafe 35 ∷ []
blocks_in_a_head-another_name = simp (part_equations, variables_equations, fault_equations, pattern_fault_equations)

-- ---- clauses side by side

pub clauses_side_by_side-first_case_clause : variable_number case_clauses (below 17) ≡ Some 1
clauses_side_by_side-first_case_clause = simp (part_equations, variables_equations)

pub clauses_side_by_side-second_case_clause : variable_number case_clauses (below 22) ≡ Some 2
clauses_side_by_side-second_case_clause = simp (part_equations, variables_equations)

pub clauses_side_by_side-other_case_clause : faults_of case_clauses ≡ fault_at Unbound 25 ∷ []
clauses_side_by_side-other_case_clause = simp (part_equations, variables_equations, fault_equations, pattern_fault_equations)

pub clauses_side_by_side-first_function_clause : variable_number function_clauses (below 7) ≡ Some 0
clauses_side_by_side-first_function_clause = simp (part_equations, variables_equations)

pub clauses_side_by_side-second_function_clause : variable_number function_clauses (below 15) ≡ Some 1
clauses_side_by_side-second_function_clause = simp (part_equations, variables_equations)

pub clauses_side_by_side-no_fault : faults_of function_clauses ≡ []
clauses_side_by_side-no_fault = simp (part_equations, variables_equations, fault_equations, pattern_fault_equations)

pub clauses_side_by_side-other_clause : faults_of other_function_clause ≡ fault_at Unbound 15 ∷ []
clauses_side_by_side-other_clause = simp (part_equations, variables_equations, fault_equations, pattern_fault_equations)

pub clauses_side_by_side-no_number : variable_number other_function_clause (below 15) ≡ None
clauses_side_by_side-no_number = simp (part_equations, variables_equations)

-- ---- matches

pub matches-in_itself : faults_of matched_by_itself ≡ fault_at Unbound 9 ∷ []
matches-in_itself = simp (part_equations, variables_equations, fault_equations, pattern_fault_equations)

pub matches-pattern : variable_number matched_by_itself (below 7) ≡ Some 1
matches-pattern = simp (part_equations, variables_equations)

pub matches-expression : variable_number matched_by_itself (below 9) ≡ None
matches-expression = simp (part_equations, variables_equations)

pub matches-behind : variable_number matched_before (below 11) ≡ Some 1
matches-behind = simp (part_equations, variables_equations)

pub matches-no_fault : faults_of matched_before ≡ []
matches-no_fault = simp (part_equations, variables_equations, fault_equations, pattern_fault_equations)

-- ---- numbers in text order

pub numbers_in_text_order-bindings : bindings_of in_text_order ≡ record { name = name_x; place = below 3; role = Met } ∷ record { name = name_y; place = below 7; role = Met } ∷ record { name = name_z; place = below 13; role = Renewed } ∷ []
numbers_in_text_order-bindings = simp (part_equations, variables_equations)

pub numbers_in_text_order-outer : variable_number in_text_order (below 24) ≡ Some 0
numbers_in_text_order-outer = simp (part_equations, variables_equations)

pub numbers_in_text_order-matched : variable_number in_text_order (below 26) ≡ Some 1
numbers_in_text_order-matched = simp (part_equations, variables_equations)

pub numbers_in_text_order-inner : variable_number in_text_order (below 17) ≡ Some 2
numbers_in_text_order-inner = simp (part_equations, variables_equations)

pub numbers_in_text_order-next_function : variable_number two_functions (in_line 3 7) ≡ Some 1
numbers_in_text_order-next_function = simp (part_equations, variables_equations)

-- ---- places of bindings

pub places_of_bindings-first : binding_place in_text_order 0 ≡ Some (below 3)
places_of_bindings-first = simp (part_equations, variables_equations)

pub places_of_bindings-first_number : variable_number in_text_order (below 3) ≡ Some 0
places_of_bindings-first_number = simp (part_equations, variables_equations)

pub places_of_bindings-last : binding_place in_text_order 2 ≡ Some (below 13)
places_of_bindings-last = simp (part_equations, variables_equations)

pub places_of_bindings-last_number : variable_number in_text_order (below 13) ≡ Some 2
places_of_bindings-last_number = simp (part_equations, variables_equations)

pub places_of_bindings-behind_the_last : binding_place in_text_order 3 ≡ None
places_of_bindings-behind_the_last = simp (part_equations, variables_equations)

pub places_of_bindings-no_variable : variable_number in_text_order (below 9) ≡ None
places_of_bindings-no_variable = simp (part_equations, variables_equations)

pub places_of_bindings-next_function : binding_place two_functions 1 ≡ Some (in_line 3 3)
places_of_bindings-next_function = simp (part_equations, variables_equations)

-- ---- the first fault

pub the_first_fault-two_variables : faults_of two_unbound ≡ fault_at Unbound 8 ∷ fault_at Unbound 10 ∷ []
the_first_fault-two_variables = simp (part_equations, variables_equations, fault_equations, pattern_fault_equations)

pub the_first_fault-first_variable : IsFirstFault two_unbound (fault_at Unbound 8)
the_first_fault-first_variable = record {
  stands = subst (λ fs. Among (fault_at Unbound 8) fs) (sym the_first_fault-two_variables) (inl refl);
  first = subst (λ fs. Every (λ g. is_earlier g (fault_at Unbound 8) ≡ false) fs) (sym the_first_fault-two_variables) (refl, (refl, tt));
}

pub the_first_fault-call_and_variable : faults_of call_before_variable ≡ fault_at Unbound 13 ∷ fault_at NoSuchFunction 8 ∷ []
the_first_fault-call_and_variable = simp (part_equations, variables_equations, fault_equations, pattern_fault_equations)

pub the_first_fault-first_is_the_call : IsFirstFault call_before_variable (fault_at NoSuchFunction 8)
the_first_fault-first_is_the_call = record {
  stands = subst (λ fs. Among (fault_at NoSuchFunction 8) fs) (sym the_first_fault-call_and_variable) (inr (inl refl));
  first = subst (λ fs. Every (λ g. is_earlier g (fault_at NoSuchFunction 8) ≡ false) fs) (sym the_first_fault-call_and_variable) (refl, (refl, tt));
}

pub the_first_fault-at_one_place : faults_of built_in_defined ≡ fault_at TwoFunctions 1 ∷ fault_at NoSpec 1 ∷ []
the_first_fault-at_one_place = simp (part_equations, variables_equations, fault_equations, pattern_fault_equations)

pub the_first_fault-first_at_one_place : IsFirstFault built_in_defined (fault_at TwoFunctions 1)
the_first_fault-first_at_one_place = record {
  stands = subst (λ fs. Among (fault_at TwoFunctions 1) fs) (sym the_first_fault-at_one_place) (inl refl);
  first = subst (λ fs. Every (λ g. is_earlier g (fault_at TwoFunctions 1) ≡ false) fs) (sym the_first_fault-at_one_place) (refl, (refl, tt));
}

-- ---- what is not the first fault

-- where the faults are these, the first of them stands among them, and none of them is earlier
first_among : (m : Module) (fs : List PlacedFault) (f : PlacedFault) → faults_of m ≡ fs → IsFirstFault m f → Among f fs × Every (λ g. is_earlier g f ≡ false) fs
first_among m fs f e is = (subst (λ gs. Among f gs) e is.stands, subst (λ gs. Every (λ g. is_earlier g f ≡ false) gs) e is.first)

no_truth : true ≡ false → ⊥
no_truth e = cc

pub faults_that_are_not_first-second_variable : IsFirstFault two_unbound (fault_at Unbound 10) → ⊥
faults_that_are_not_first-second_variable is = no_truth (first_among _ _ _ the_first_fault-two_variables is).1.0

pub faults_that_are_not_first-variable_behind_a_call : IsFirstFault call_before_variable (fault_at Unbound 13) → ⊥
faults_that_are_not_first-variable_behind_a_call is = no_truth (first_among _ _ _ the_first_fault-call_and_variable is).1.1.0

pub faults_that_are_not_first-second_at_one_place : IsFirstFault built_in_defined (fault_at NoSpec 1) → ⊥
faults_that_are_not_first-second_at_one_place is = no_truth (first_among _ _ _ the_first_fault-at_one_place is).1.0

-- what stands in a list of two is one of them
neither : {f g h : PlacedFault} → (f ≡ g → ⊥) → (f ≡ h → ⊥) → Among f (g ∷ h ∷ []) → ⊥
neither n k (inl e) = n e
neither n k (inr (inl e)) = k e
neither n k (inr (inr e)) = e

pub faults_that_are_not_first-earlier_than_all : IsFirstFault two_unbound (fault_at Unbound 7) → ⊥
faults_that_are_not_first-earlier_than_all is = neither (λ e. no_truth (ap (λ f. nat_eq f.place.column 7) e)) (λ e. no_truth (ap (λ f. nat_eq f.place.column 7) e)) (first_among _ _ _ the_first_fault-two_variables is).0

pub faults_that_are_not_first-of_another_kind : IsFirstFault two_unbound (fault_at Unsafe 8) → ⊥
faults_that_are_not_first-of_another_kind is = neither (λ e. no_truth (ap (λ f. nat_eq (rank f.fault) 1) e)) (λ e. no_truth (ap (λ f. nat_eq (rank f.fault) 1) e)) (first_among _ _ _ the_first_fault-two_variables is).0

-- ---- kinds of faults

pub kinds_of_faults-unbound : faults_of unbound ≡ fault_at Unbound 7 ∷ []
kinds_of_faults-unbound = simp (part_equations, variables_equations, fault_equations, pattern_fault_equations)

pub kinds_of_faults-unbound_in_a_default : faults_of default_of_a_field ≡ placed_fault Unbound (in_line 1 14) ∷ []
kinds_of_faults-unbound_in_a_default = simp (part_equations, variables_equations, fault_equations, pattern_fault_equations)

pub kinds_of_faults-bound_inside : faults_of behind_a_begin ≡ fault_at Unsafe 21 ∷ []
kinds_of_faults-bound_inside = simp (part_equations, variables_equations, fault_equations, pattern_fault_equations)

pub kinds_of_faults-function_called : faults_of no_such_function ≡ fault_at NoSuchFunction 7 ∷ []
kinds_of_faults-function_called = simp (part_equations, variables_equations, fault_equations, pattern_fault_equations)

pub kinds_of_faults-built_in_called : faults_of no_such_built_in ≡ fault_at NoSuchFunction 7 ∷ []
kinds_of_faults-built_in_called = simp (part_equations, variables_equations, fault_equations, pattern_fault_equations)

pub kinds_of_faults-function_named : faults_of named_function ≡ fault_at NoSuchFunction 7 ∷ []
kinds_of_faults-function_named = simp (part_equations, variables_equations, fault_equations, pattern_fault_equations)

pub kinds_of_faults-function_specified : faults_of spec_alone ≡ placed_fault NoSuchFunction (in_line 1 1) ∷ []
kinds_of_faults-function_specified = refl

pub kinds_of_faults-function_exported : faults_of exporting ≡ placed_fault NoSuchFunction (in_line 1 1) ∷ []
kinds_of_faults-function_exported = simp (part_equations, variables_equations, fault_equations, pattern_fault_equations)

pub kinds_of_faults-two_functions : faults_of two_functions ≡ placed_fault TwoFunctions (in_line 3 1) ∷ []
kinds_of_faults-two_functions = simp (part_equations, variables_equations, fault_equations, pattern_fault_equations)

pub kinds_of_faults-no_spec : faults_of without_spec ≡ fault_at NoSpec 1 ∷ []
kinds_of_faults-no_spec = simp (part_equations, variables_equations, fault_equations, pattern_fault_equations)

pub kinds_of_faults-no_such_record : faults_of no_such_record ≡ fault_at NoSuchRecord 7 ∷ []
kinds_of_faults-no_such_record = simp (part_equations, variables_equations, fault_equations, pattern_fault_equations)

pub kinds_of_faults-no_such_field : faults_of no_such_field ≡ fault_at NoSuchField 10 ∷ []
kinds_of_faults-no_such_field = simp (part_equations, variables_equations, fault_equations, pattern_fault_equations)

pub kinds_of_faults-repeated : faults_of repeated_field ≡ fault_at Repeated 14 ∷ []
kinds_of_faults-repeated = simp (part_equations, variables_equations, fault_equations, pattern_fault_equations)

pub kinds_of_faults-arity_differs : faults_of arity_differs ≡ fault_at ArityDiffers 17 ∷ []
kinds_of_faults-arity_differs = simp (part_equations, variables_equations, fault_equations, pattern_fault_equations)

-- ---- right names

something : {fs gs : List PlacedFault} {f : PlacedFault} → fs ≡ f ∷ gs → fs ≡ [] → ⊥
something e h = cc

pub right_names-with_its_spec : HasRightNames with_spec
right_names-with_its_spec = simp (part_equations, variables_equations, fault_equations, pattern_fault_equations)

pub right_names-without_it : HasRightNames without_spec → ⊥
right_names-without_it right = something kinds_of_faults-no_spec right

pub right_names-variable_unbound : HasRightNames unbound → ⊥
right_names-variable_unbound right = something kinds_of_faults-unbound right

-- ---- faults of records

pub faults_of_records-new : faults_of repeated_in_no_record ≡ fault_at NoSuchRecord 7 ∷ fault_at Repeated 14 ∷ []
faults_of_records-new = simp (part_equations, variables_equations, fault_equations, pattern_fault_equations)

pub faults_of_records-read : faults_of field_of_no_record ≡ fault_at NoSuchRecord 7 ∷ []
faults_of_records-read = simp (part_equations, variables_equations, fault_equations, pattern_fault_equations)

pub faults_of_records-changed : faults_of no_record_changed ≡ fault_at NoSuchRecord 7 ∷ []
faults_of_records-changed = simp (part_equations, variables_equations, fault_equations, pattern_fault_equations)

pub faults_of_records-field_read : faults_of no_field_of_a_record ≡ fault_at NoSuchField 7 ∷ []
faults_of_records-field_read = simp (part_equations, variables_equations, fault_equations, pattern_fault_equations)

pub faults_of_records-field_changed : faults_of no_field_changed ≡ fault_at NoSuchField 11 ∷ []
faults_of_records-field_changed = simp (part_equations, variables_equations, fault_equations, pattern_fault_equations)

pub faults_of_records-patterns : faults_of records_in_patterns ≡ fault_at NoSuchRecord 18 ∷ fault_at NoSuchField 28 ∷ fault_at Repeated 36 ∷ []
faults_of_records-patterns = simp (part_equations, variables_equations, fault_equations, pattern_fault_equations)

-- ---- every form

pub every_form-patterns : bindings_of every_pattern ≡ record { name = name_x; place = below 3; role = Met } ∷ record { name = codes "A"; place = below 19; role = Met } ∷ record { name = codes "B"; place = below 23; role = Met } ∷ record { name = codes "C"; place = below 25; role = Met } ∷ record { name = codes "D"; place = below 33; role = Met } ∷ record { name = codes "E"; place = below 41; role = Met } ∷ record { name = codes "G"; place = below 44; role = Met } ∷ record { name = codes "H"; place = below 46; role = Met } ∷ []
every_form-patterns = simp (part_equations, variables_equations)

pub every_form-last_of_a_pattern : variable_number every_pattern (below 52) ≡ Some 7
every_form-last_of_a_pattern = simp (part_equations, variables_equations)

pub every_form-no_fault_in_a_pattern : faults_of every_pattern ≡ []
every_form-no_fault_in_a_pattern = simp (part_equations, variables_equations, fault_equations, pattern_fault_equations)

pub every_form-variables_of_expressions : faults_of every_expression ≡ map (fault_at Unbound) (9 ∷ 13 ∷ 15 ∷ 19 ∷ 21 ∷ 23 ∷ 32 ∷ 35 ∷ 37 ∷ 42 ∷ 45 ∷ 54 ∷ 62 ∷ 71 ∷ 74 ∷ [])
every_form-variables_of_expressions = simp (part_equations, variables_equations, fault_equations, pattern_fault_equations)

pub every_form-variables_of_guards : faults_of every_guard ≡ fault_at Unbound 26 ∷ fault_at Unbound 28 ∷ fault_at Unbound 31 ∷ []
every_form-variables_of_guards = simp (part_equations, variables_equations, fault_equations, pattern_fault_equations)

pub every_form-calls_in_expressions : faults_of called_in_every_expression ≡ map (fault_at NoSuchFunction) (9 ∷ 15 ∷ 19 ∷ 25 ∷ 29 ∷ 33 ∷ 39 ∷ 46 ∷ 53 ∷ 58 ∷ 69 ∷ 79 ∷ 90 ∷ 96 ∷ [])
every_form-calls_in_expressions = simp (part_equations, variables_equations, fault_equations, pattern_fault_equations)

pub every_form-calls_in_constructs : faults_of called_in_every_construct ≡ map (fault_at NoSuchFunction) (9 ∷ 17 ∷ 21 ∷ 34 ∷ 47 ∷ 64 ∷ 78 ∷ 93 ∷ [])
every_form-calls_in_constructs = simp (part_equations, variables_equations, fault_equations, pattern_fault_equations)

pub every_form-calls_in_a_try : faults_of called_in_a_try ≡ map (fault_at NoSuchFunction) (11 ∷ 21 ∷ 34 ∷ 47 ∷ 57 ∷ [])
every_form-calls_in_a_try = simp (part_equations, variables_equations, fault_equations, pattern_fault_equations)

-- ---- no faults

pub no_faults-own_function : faults_of calls_itself ≡ []
no_faults-own_function = simp (part_equations, variables_equations, fault_equations, pattern_fault_equations)

pub no_faults-built_in : faults_of built_in_called ≡ []
no_faults-built_in = simp (part_equations, variables_equations, fault_equations, pattern_fault_equations)

pub no_faults-field : faults_of field_of_a_record ≡ []
no_faults-field = simp (part_equations, variables_equations, fault_equations, pattern_fault_equations)
