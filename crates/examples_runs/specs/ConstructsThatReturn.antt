-- Each construct, by an example that comes to a value. Where a group has the expression already, its statement is cited by its number in expressions.txt.
use Rattle.std.specs.Prelude.{◌≡◌, [], ◌∷◌, codes}
use Rattle.erl_runs.specs.Value.{named_fun, closure, no_bindings, came}
use Rattle.erl_runs.specs.Matching.{with_variable}
use Rattle.examples_runs.specs.Trees as T
use Rattle.examples_runs.specs.Patterns as P
use Rattle.examples_runs.specs.Outcomes as V
use Rattle.examples_runs.specs.Outcomes.{outcome_of}
use Rattle.examples_runs.specs.Arithmetic.{arithmetic_1, arithmetic_2, arithmetic_3, arithmetic_4, arithmetic_5, arithmetic_11, arithmetic_17, arithmetic_28}
use Rattle.examples_runs.specs.Comparisons.{comparisons_1, comparisons_5, comparisons_6, comparisons_7, comparisons_8, comparisons_9, comparisons_10, comparisons_11}
use Rattle.examples_runs.specs.Booleans.{booleans_1, booleans_3, booleans_6, booleans_7, booleans_14, booleans_16}
use Rattle.examples_runs.specs.Appending.{appending_1}
use Rattle.examples_runs.specs.KindTests.{kind_tests_2, kind_tests_3, kind_tests_4, kind_tests_5, kind_tests_6, kind_tests_7, kind_tests_11, kind_tests_13}
use Rattle.examples_runs.specs.PartsOfValues.{parts_of_values_1, parts_of_values_4, parts_of_values_8, parts_of_values_12, parts_of_values_14, parts_of_values_16}
use Rattle.examples_runs.specs.Strings.{strings_1, strings_5, strings_14}
use Rattle.examples_runs.specs.ListsAndTuples.{lists_and_tuples_1, lists_and_tuples_2, lists_and_tuples_3, lists_and_tuples_9, lists_and_tuples_10}
use Rattle.examples_runs.specs.MapsMade.{maps_made_3, maps_made_7, maps_made_9}
use Rattle.examples_runs.specs.RecordsMade.{records_made_1, records_made_2, records_made_7, records_made_10, records_made_18}
use Rattle.examples_runs.specs.Bodies.{bodies_2, bodies_3, bodies_4, bodies_5, bodies_6}
use Rattle.examples_runs.specs.Cases.{cases_1, cases_2, cases_3, cases_4, cases_7, cases_9, cases_12, cases_14}
use Rattle.examples_runs.specs.Matching.{matching_1, matching_4, matching_6, matching_9, matching_12, matching_14, matching_16, matching_21, matching_23}
use Rattle.examples_runs.specs.Guards.{guards_4, guards_5, guards_6, guards_7, guards_10, guards_17}
use Rattle.examples_runs.specs.Tries.{tries_1, tries_2, tries_4, tries_10, tries_16, tries_23, tries_30, tries_32, tries_37}
use Rattle.examples_runs.specs.Funs.{funs_2, funs_5, funs_8, funs_19, funs_20, funs_23}
use Rattle.examples_runs.specs.Functions.{functions_1, functions_8, functions_10}
use Rattle.examples_runs.specs.Comprehensions.{comprehensions_2, comprehensions_3, comprehensions_5, comprehensions_9, comprehensions_19, comprehensions_27}

-- ---- literals

-- a gives a
abbrev pub an_atom : Type 0
an_atom = outcome_of [] [] (T.atom (codes "a")) ≡ came (V.atom (codes "a"))

-- 7 gives 7
abbrev pub an_integer : Type 0
an_integer = outcome_of [] [] (T.int 7) ≡ came (V.int 7)

-- $a gives 97
abbrev pub a_character : Type 0
a_character = strings_5

-- "abc" gives [97, 98, 99]
abbrev pub a_string : Type 0
a_string = strings_1

-- begin X = 1, X end gives 1
abbrev pub a_variable : Type 0
a_variable = bodies_3

-- ((1)) gives 1
abbrev pub parentheses : Type 0
parentheses = lists_and_tuples_10

-- ---- tuples and lists

-- {1, {2, {}}, [3]} gives {1, {2, {}}, [3]}
abbrev pub a_tuple : Type 0
a_tuple = lists_and_tuples_9

-- [1] gives [1]
abbrev pub a_list : Type 0
a_list = lists_and_tuples_2

-- [] gives []
abbrev pub the_empty_list : Type 0
the_empty_list = lists_and_tuples_1

-- [1, 2 | 3] gives [1, 2 | 3]
abbrev pub a_list_with_a_bar : Type 0
a_list_with_a_bar = lists_and_tuples_3

-- ---- operators

-- + 3 gives 3
abbrev pub plus : Type 0
plus = arithmetic_4

-- - 5 gives -5
abbrev pub minus : Type 0
minus = arithmetic_5

-- not true gives false
abbrev pub negation : Type 0
negation = booleans_7

-- 1 + 2 gives 3
abbrev pub a_sum : Type 0
a_sum = arithmetic_1

-- 1 - 2 gives -1
abbrev pub a_difference : Type 0
a_difference = arithmetic_2

-- 3 * -4 gives -12
abbrev pub a_product : Type 0
a_product = arithmetic_3

-- -7 div 2 gives -3
abbrev pub a_quotient : Type 0
a_quotient = arithmetic_11

-- -7 rem 2 gives -1
abbrev pub a_remainder : Type 0
a_remainder = arithmetic_17

-- 1 == 1 gives true
abbrev pub equals : Type 0
equals = comparisons_8

-- 1 /= 1 gives false
abbrev pub differs : Type 0
differs = comparisons_10

-- 1 =:= 1 gives true
abbrev pub equals_exactly : Type 0
equals_exactly = comparisons_9

-- 1 =/= 2 gives true
abbrev pub differs_exactly : Type 0
differs_exactly = comparisons_11

-- 1 < 2 gives true
abbrev pub is_less : Type 0
is_less = comparisons_1

-- 2 > -3 gives true
abbrev pub is_greater : Type 0
is_greater = comparisons_7

-- 1 =< 1 gives true
abbrev pub is_at_most : Type 0
is_at_most = comparisons_5

-- 1 >= 2 gives false
abbrev pub is_at_least : Type 0
is_at_least = comparisons_6

-- true and false gives false
abbrev pub conjunction : Type 0
conjunction = booleans_1

-- false or true gives true
abbrev pub disjunction : Type 0
disjunction = booleans_3

-- true xor false gives true
abbrev pub exclusive_disjunction : Type 0
exclusive_disjunction = booleans_6

-- false andalso throw(x) gives false
abbrev pub lazy_conjunction : Type 0
lazy_conjunction = booleans_14

-- true orelse throw(x) gives true
abbrev pub lazy_disjunction : Type 0
lazy_disjunction = booleans_16

-- [1, 2] ++ [3] gives [1, 2, 3]
abbrev pub lists_together : Type 0
lists_together = appending_1

-- ---- calls and funs

-- fact(5) gives 120, where fact(0) -> 1; fact(N) -> N * fact(N - 1).
abbrev pub a_call : Type 0
a_call = functions_1

-- erlang:hd([1]) gives 1
abbrev pub a_call_with_a_prefix : Type 0
a_call_with_a_prefix = parts_of_values_16

-- fun f/1 gives itself
abbrev pub a_fun_by_name : Type 0
a_fun_by_name = outcome_of [] [] (T.fun_name (codes "f") 1) ≡ came (named_fun (codes "f") 1)

-- begin X = 1, fun() -> X end end gives the closure of the first fun expression of the module, where X is 1
abbrev pub a_fun_expression : Type 0
a_fun_expression = outcome_of [] [] (T.begin_of (T.match (P.var (codes "X")) (T.int 1) ∷ T.value (T.fun_of (T.clause [] (T.value (T.var (codes "X")) ∷ []) ∷ [])) ∷ [])) ≡ came (closure 0 (with_variable (codes "X") (V.int 1) no_bindings))

-- (fun(X) -> X + 1 end)(2) gives 3
abbrev pub an_application : Type 0
an_application = funs_2

-- begin F = fun f/1, F(4) end gives 8, where f(X) -> X * 2.
abbrev pub an_application_of_a_fun_by_name : Type 0
an_application_of_a_fun_by_name = funs_20

-- begin F = fun(1) -> a; (2) -> b; (_) -> c end, {F(1), F(2), F(3)} end gives {a, b, c}
abbrev pub clauses_of_a_fun : Type 0
clauses_of_a_fun = funs_5

-- begin A = adder(1), B = adder(10), {A(5), B(5)} end gives {6, 15}, where adder(N) -> fun(M) -> N + M end.
abbrev pub a_closure_behind_its_function : Type 0
a_closure_behind_its_function = funs_19

-- call(fun(X) -> {X} end, 3) gives {3}, where call(F, X) -> F(X).
abbrev pub a_fun_as_argument : Type 0
a_fun_as_argument = funs_23

-- ---- built ins

-- erlang:is_atom(a) gives true
abbrev pub test_of_atoms : Type 0
test_of_atoms = kind_tests_13

-- [is_boolean(X) || X <- [1, a, true, false, [], [1], {}, #{}, fun f/1]] gives true for true and for false alone
abbrev pub test_of_booleans : Type 0
test_of_booleans = kind_tests_2

-- [is_integer(X) || X <- [1, -1, 0, a, true, [], [1], {}, #{}, fun f/1]] gives true for the integers alone
abbrev pub test_of_integers : Type 0
test_of_integers = kind_tests_3

-- [is_list(X) || X <- [1, a, [], [1], [1 | 2], "a", {}, #{}, fun f/1]] gives true for the empty list and the cells alone
abbrev pub test_of_lists : Type 0
test_of_lists = kind_tests_4

-- [is_map(X) || X <- [1, a, [], [1], {}, #{}, #{a => 1}, fun f/1]] gives true for the maps alone
abbrev pub test_of_maps : Type 0
test_of_maps = kind_tests_5

-- [is_tuple(X) || X <- [1, a, [], [1], {}, {1}, #{}, fun f/1]] gives true for the tuples alone
abbrev pub test_of_tuples : Type 0
test_of_tuples = kind_tests_6

-- [is_function(X) || X <- [1, a, [], [1], {}, #{}, fun f/1, fun() -> 1 end]] gives true for the funs alone
abbrev pub test_of_funs : Type 0
test_of_funs = kind_tests_7

-- is_function(fun(A, B, C) -> {A, B, C} end, 3) gives true
abbrev pub test_of_an_arity : Type 0
test_of_an_arity = kind_tests_11

-- hd([1, 2]) gives 1
abbrev pub a_head : Type 0
a_head = parts_of_values_1

-- tl([1, 2]) gives [2]
abbrev pub a_tail : Type 0
a_tail = parts_of_values_4

-- length([1, 2, 3]) gives 3
abbrev pub a_length : Type 0
a_length = parts_of_values_8

-- tuple_size({1, {2, 3}}) gives 2
abbrev pub a_tuple_size : Type 0
a_tuple_size = parts_of_values_12

-- map_size(#{a => 1, 2 => b, a => 3}) gives 2
abbrev pub a_map_size : Type 0
a_map_size = parts_of_values_14

-- abs(-3) gives 3
abbrev pub an_absolute_value : Type 0
an_absolute_value = arithmetic_28

-- ---- maps and records

-- #{a => 1, b => 2, 1 => c, -1 => d} gives that map
abbrev pub a_new_map : Type 0
a_new_map = maps_made_3

-- #{a => 1}#{b => 2} gives #{a => 1, b => 2}
abbrev pub an_added_entry : Type 0
an_added_entry = maps_made_7

-- #{a => 1}#{a := 2} gives #{a => 2}
abbrev pub a_replaced_entry : Type 0
a_replaced_entry = maps_made_9

-- #point{x = 1} gives {point, 1, 0}
abbrev pub a_new_record : Type 0
a_new_record = records_made_2

-- #point{} gives {point, undefined, 0}
abbrev pub a_new_record_without_fields : Type 0
a_new_record_without_fields = records_made_1

-- #point{x = 1}#point{y = 5} gives {point, 1, 5}
abbrev pub a_changed_record : Type 0
a_changed_record = records_made_10

-- #point{x = 1}#point.x gives 1
abbrev pub a_field : Type 0
a_field = records_made_7

-- ---- bodies and choices

-- begin 1, 2 end gives 2
abbrev pub a_body : Type 0
a_body = bodies_2

-- begin X = 1, Y = X + 1, {X, Y} end gives {1, 2}
abbrev pub matches_in_a_body : Type 0
matches_in_a_body = bodies_4

-- begin {A, B} = {1, 2}, A + B end gives 3
abbrev pub a_match_of_a_pattern : Type 0
a_match_of_a_pattern = bodies_6

-- begin X = 1, X = 1 end gives 1
abbrev pub a_match_of_a_bound_variable : Type 0
a_match_of_a_bound_variable = bodies_5

-- case 2 of 1 -> a; 2 -> b end gives b
abbrev pub a_case : Type 0
a_case = cases_2

-- case 5 of X when X > 7 -> big; X when X > 4 -> middle; _ -> small end gives middle
abbrev pub a_case_with_guards : Type 0
a_case_with_guards = cases_14

-- if 1 > 2 -> a; 2 > 2 -> b; true -> c end gives c
abbrev pub an_if : Type 0
an_if = guards_4

-- ---- guards

-- if 1 < 2, 2 < 3 -> a; true -> b end gives a
abbrev pub several_tests : Type 0
several_tests = guards_5

-- if 1 < 2, 2 < 2 -> a; true -> b end gives b
abbrev pub a_test_that_fails : Type 0
a_test_that_fails = guards_6

-- if 1 > 2; 2 > 1 -> a; true -> b end gives a
abbrev pub two_alternatives : Type 0
two_alternatives = guards_7

-- if 1 div 0 == 1 -> a; true -> b end gives b
abbrev pub a_test_that_raises : Type 0
a_test_that_raises = guards_17

-- if hd([]) == 1 -> a; true -> b end gives b
abbrev pub a_test_that_goes_wrong : Type 0
a_test_that_goes_wrong = guards_10

-- {sort({}), sort(#{}), sort([])} gives {sized, sized, other}, where sort(T) when is_tuple(T); is_map(T) -> sized; sort(_) -> other.
abbrev pub alternatives_of_a_function : Type 0
alternatives_of_a_function = functions_10

-- ---- tries

-- try 1 catch _ -> 2 end gives 1
abbrev pub a_catch_part_that_has_no_use : Type 0
a_catch_part_that_has_no_use = tries_1

-- try throw(1) catch X -> {caught, X} end gives {caught, 1}
abbrev pub a_catch_part_without_a_class : Type 0
a_catch_part_without_a_class = tries_2

-- try error(1) catch error:X -> {caught, X} end gives {caught, 1}
abbrev pub a_catch_part_with_a_class : Type 0
a_catch_part_with_a_class = tries_4

-- try exit(a) catch C:X -> {C, X} end gives {exit, a}
abbrev pub a_catch_part_with_a_variable_class : Type 0
a_catch_part_with_a_variable_class = tries_10

-- try throw(2) catch X when X > 2 -> big; X when X > 1 -> middle end gives middle
abbrev pub a_catch_part_with_guards : Type 0
a_catch_part_with_guards = tries_16

-- try 2 of 1 -> a; X -> {b, X} catch _ -> c end gives {b, 2}
abbrev pub an_of_part : Type 0
an_of_part = tries_23

-- try 1 after 2 end gives 1
abbrev pub an_after_part : Type 0
an_after_part = tries_30

-- try throw(1) catch 1 -> a after 2 end gives a
abbrev pub all_parts : Type 0
all_parts = tries_32

-- try 1 of 1 -> a catch _ -> b after 2 end gives a
abbrev pub an_of_and_an_after_part : Type 0
an_of_and_an_after_part = tries_37

-- ---- comprehensions

-- [X || X <- [1, 2, 3]] gives [1, 2, 3]
abbrev pub a_generator : Type 0
a_generator = comprehensions_2

-- [{X, Y} || X <- [1, 2], Y <- [a, b]] gives [{1, a}, {1, b}, {2, a}, {2, b}]
abbrev pub two_generators : Type 0
two_generators = comprehensions_5

-- [X * X || X <- [1, 2, 3], X > 1] gives [4, 9]
abbrev pub a_filter_that_is_a_guard : Type 0
a_filter_that_is_a_guard = comprehensions_3

-- [X || X <- [1, 2, 3], odd(X)] gives [1, 3], where odd(X) -> X rem 2 == 1.
abbrev pub a_filter_that_is_no_guard : Type 0
a_filter_that_is_no_guard = comprehensions_9

-- [a || true] gives [a]
abbrev pub a_filter_alone : Type 0
a_filter_alone = comprehensions_19

-- [X || {X, a} <- [{1, a}, {2, b}, 3, {4, a}]] gives [1, 4]
abbrev pub elements_that_match : Type 0
elements_that_match = comprehensions_27

-- ---- patterns

-- case 1 of 1 -> a; 2 -> b end gives a
abbrev pub integer_patterns : Type 0
integer_patterns = cases_1

-- case -1 of 1 -> a; -1 -> b end gives b
abbrev pub negative_patterns : Type 0
negative_patterns = matching_1

-- case {a, 1} of {b, X} -> X; {a, X} -> X + 1 end gives 2
abbrev pub atom_patterns : Type 0
atom_patterns = cases_4

-- case 97 of $b -> no; $a -> yes end gives yes
abbrev pub character_patterns : Type 0
character_patterns = strings_14

-- case [97, 98] of "ab" -> yes end gives yes
abbrev pub string_patterns : Type 0
string_patterns = matching_14

-- case 3 of 1 -> a; X -> {b, X} end gives {b, 3}
abbrev pub variable_patterns : Type 0
variable_patterns = cases_3

-- begin X = 1, case 2 of X -> same; _ -> other end end gives other
abbrev pub bound_variable_patterns : Type 0
bound_variable_patterns = cases_7

-- case {1, 1} of {X, X} -> same; _ -> other end gives same
abbrev pub repeated_variable_patterns : Type 0
repeated_variable_patterns = cases_9

-- case {1, 2} of {_, _} -> pair end gives pair
abbrev pub wildcard_patterns : Type 0
wildcard_patterns = cases_12

-- case {1, 2} of ({(A), B}) -> {B, A} end gives {2, 1}
abbrev pub patterns_in_parentheses : Type 0
patterns_in_parentheses = matching_12

-- case {1, {2, [3]}} of {A, {B, [C]}} -> A + B + C end gives 6
abbrev pub tuple_patterns : Type 0
tuple_patterns = matching_9

-- case [1, 2] of [A] -> A; [A, B] -> {A, B} end gives {1, 2}
abbrev pub list_patterns : Type 0
list_patterns = matching_4

-- case [1, 2, 3] of [A, B | C] -> {A, B, C} end gives {1, 2, [3]}
abbrev pub list_patterns_with_a_bar : Type 0
list_patterns_with_a_bar = matching_6

-- case #{a => 1, b => 2} of #{b := X, a := Y} -> {X, Y} end gives {2, 1}
abbrev pub map_patterns : Type 0
map_patterns = matching_21

-- case #{1 => a, -1 => b, $a => c} of #{1 := A, -1 := B, $a := C} -> {A, B, C} end gives {a, b, c}
abbrev pub keys_of_map_patterns : Type 0
keys_of_map_patterns = matching_23

-- case #point{x = 1, y = 2} of #point{y = Y} -> Y end gives 2, where -record(point, {x, y = 0}).
abbrev pub record_patterns : Type 0
record_patterns = records_made_18

-- case {1, 2} of {A, _} = {_, B} -> {B, A} end gives {2, 1}
abbrev pub aliases : Type 0
aliases = matching_16

-- {same(1, 1), same(1, 2), same({a, []}, {a, []})} gives {true, false, true}, where same(X, X) -> true; same(_, _) -> false.
abbrev pub patterns_of_a_function : Type 0
patterns_of_a_function = functions_8

-- begin F = fun({X, Y}) -> X + Y; ([X | _]) -> X end, {F({1, 2}), F([3])} end gives {3, 3}
abbrev pub patterns_of_a_fun : Type 0
patterns_of_a_fun = funs_8
