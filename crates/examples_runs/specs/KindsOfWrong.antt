-- Each cause of the outcome `wrong` that there is in modules of the profile, by an example: what stands in the comment goes wrong. Where a group has the expression already, its statement is cited by its number in expressions.txt; the others stand here in full, most of which don't compile in Erlang. Records and functions are those of the group `own_outcomes`.
use Rattle.std.specs.Prelude.{◌≡◌, [], ◌∷◌, codes}
use Rattle.erl_tree.specs.declared.expr.UnaryOp.TheVariants as U
use Rattle.erl_tree.specs.declared.expr.BinaryOp.TheVariants as B
use Rattle.erl_runs.specs.Value.{wrong}
use Rattle.examples_runs.specs.Trees as T
use Rattle.examples_runs.specs.Patterns as P
use Rattle.examples_runs.specs.Outcomes.{outcome_of}
use Rattle.examples_runs.specs.OwnOutcomes.{records, functions, own_outcomes_1, own_outcomes_2, own_outcomes_3, own_outcomes_4, own_outcomes_5, own_outcomes_6, own_outcomes_7, own_outcomes_9, own_outcomes_10, own_outcomes_11, own_outcomes_12, own_outcomes_13, own_outcomes_14, own_outcomes_15, own_outcomes_16, own_outcomes_17, own_outcomes_18, own_outcomes_19, own_outcomes_20, own_outcomes_21, own_outcomes_22, own_outcomes_23, own_outcomes_24, own_outcomes_25, own_outcomes_26, own_outcomes_27, own_outcomes_28, own_outcomes_29, own_outcomes_30, own_outcomes_31, own_outcomes_32, own_outcomes_33, own_outcomes_34, own_outcomes_35, own_outcomes_36, own_outcomes_37, own_outcomes_38, own_outcomes_39, own_outcomes_41, own_outcomes_42, own_outcomes_43, own_outcomes_44, own_outcomes_45, own_outcomes_47, own_outcomes_48, own_outcomes_49, own_outcomes_50}

-- ---- clauses

-- f(2), where f(1) -> a.
abbrev pub no_clause_of_a_function : Type 0
no_clause_of_a_function = own_outcomes_34

-- (fun(1) -> a end)(2)
abbrev pub no_clause_of_a_fun : Type 0
no_clause_of_a_fun = own_outcomes_35

-- case 1 of 2 -> a end
abbrev pub no_clause_of_a_case : Type 0
no_clause_of_a_case = own_outcomes_27

-- case 1 of X when X > 1 -> a end
abbrev pub no_guard_of_a_case : Type 0
no_guard_of_a_case = own_outcomes_28

-- if 1 > 2 -> a end
abbrev pub no_alternative_of_an_if : Type 0
no_alternative_of_an_if = own_outcomes_29

-- try 1 of 2 -> a catch _:_ -> b end
abbrev pub no_clause_of_an_of_part : Type 0
no_clause_of_an_of_part = own_outcomes_33

-- ---- matches

-- begin 1 = 2 end
abbrev pub match_of_another_value : Type 0
match_of_another_value = own_outcomes_30

-- begin X = 1, X = 2 end
abbrev pub match_of_a_bound_variable : Type 0
match_of_a_bound_variable = own_outcomes_31

-- begin {A, B} = {1, 2, 3}, {A, B} end
abbrev pub match_of_another_size : Type 0
match_of_another_size = own_outcomes_32

-- ---- operators

-- 1 + a
abbrev pub sum_of_no_integer : Type 0
sum_of_no_integer = own_outcomes_1

-- {} - 1
abbrev pub difference_of_no_integer : Type 0
difference_of_no_integer = own_outcomes_3

-- a * 1
abbrev pub product_of_no_integer : Type 0
product_of_no_integer = own_outcomes_2

-- a div 0
abbrev pub quotient_of_no_integer : Type 0
quotient_of_no_integer = own_outcomes_4

-- 1 rem a
abbrev pub remainder_of_no_integer : Type 0
remainder_of_no_integer = own_outcomes_5

-- - a
abbrev pub minus_of_no_integer : Type 0
minus_of_no_integer = own_outcomes_6

-- + []
abbrev pub plus_of_no_integer : Type 0
plus_of_no_integer = own_outcomes_7

-- false and 1
abbrev pub and_of_no_boolean : Type 0
and_of_no_boolean = own_outcomes_9

-- a or true
abbrev pub or_of_no_boolean : Type 0
or_of_no_boolean = own_outcomes_10

-- true xor 1
abbrev pub xor_of_no_boolean : Type 0
xor_of_no_boolean = own_outcomes_11

-- not 1
abbrev pub not_of_no_boolean : Type 0
not_of_no_boolean = own_outcomes_12

-- 1 andalso true
abbrev pub andalso_of_no_boolean : Type 0
andalso_of_no_boolean = own_outcomes_13

-- a orelse true
abbrev pub orelse_of_no_boolean : Type 0
orelse_of_no_boolean = own_outcomes_14

-- a ++ []
abbrev pub append_to_no_list : Type 0
append_to_no_list = own_outcomes_15

-- [1 | 2] ++ []
abbrev pub append_to_an_improper_list : Type 0
append_to_an_improper_list = own_outcomes_16

-- ---- built ins

-- hd([])
abbrev pub head_of_the_empty_list : Type 0
head_of_the_empty_list = own_outcomes_17

-- hd(a)
abbrev pub head_of_no_list : Type 0
head_of_no_list = own_outcomes_18

-- tl([])
abbrev pub tail_of_the_empty_list : Type 0
tail_of_the_empty_list = own_outcomes_19

-- length(a)
abbrev pub length_of_no_list : Type 0
length_of_no_list = own_outcomes_21

-- length([1 | 2])
abbrev pub length_of_an_improper_list : Type 0
length_of_an_improper_list = own_outcomes_20

-- tuple_size([])
abbrev pub tuple_size_of_no_tuple : Type 0
tuple_size_of_no_tuple = own_outcomes_22

-- map_size([])
abbrev pub map_size_of_no_map : Type 0
map_size_of_no_map = own_outcomes_23

-- abs(a)
abbrev pub abs_of_no_integer : Type 0
abs_of_no_integer = own_outcomes_24

-- is_function(fun g/0, a)
abbrev pub arity_of_no_number : Type 0
arity_of_no_number = outcome_of records functions (T.call (codes "is_function") (T.fun_name (codes "g") 0 ∷ T.atom (codes "a") ∷ [])) ≡ wrong

-- is_function(fun g/0, -1)
abbrev pub arity_below_zero : Type 0
arity_below_zero = outcome_of records functions (T.call (codes "is_function") (T.fun_name (codes "g") 0 ∷ T.unary U.Minus (T.int 1) ∷ [])) ≡ wrong

-- ---- applications

-- begin X = a, X(1) end
abbrev pub application_of_no_fun : Type 0
application_of_no_fun = own_outcomes_38

-- (fun(X) -> X end)(1, 2)
abbrev pub closure_of_another_arity : Type 0
closure_of_another_arity = own_outcomes_36

-- (fun f/1)()
abbrev pub named_fun_of_another_arity : Type 0
named_fun_of_another_arity = own_outcomes_37

-- absent()
abbrev pub absent_function : Type 0
absent_function = outcome_of records functions (T.call (codes "absent") []) ≡ wrong

-- f(1, 2), where only f/1 is defined
abbrev pub absent_arity : Type 0
absent_arity = outcome_of records functions (T.call (codes "f") (T.int 1 ∷ T.int 2 ∷ [])) ≡ wrong

-- (fun absent/0)()
abbrev pub absent_named_fun : Type 0
absent_named_fun = outcome_of records functions (T.apply (T.fun_name (codes "absent") 0) []) ≡ wrong

-- erlang:absent(1)
abbrev pub absent_built_in : Type 0
absent_built_in = outcome_of records functions (T.erlang_call (codes "absent") (T.int 1 ∷ [])) ≡ wrong

-- ---- maps

-- #{{} => 1}
abbrev pub new_map_with_another_key : Type 0
new_map_with_another_key = own_outcomes_39

-- #{a => 1}#{[] := 1}
abbrev pub changed_map_with_another_key : Type 0
changed_map_with_another_key = own_outcomes_41

-- begin X = a, X#{a => 1} end
abbrev pub change_of_no_map : Type 0
change_of_no_map = own_outcomes_42

-- ---- records

-- begin X = a, X#point.x end
abbrev pub field_of_no_tuple : Type 0
field_of_no_tuple = own_outcomes_43

-- begin X = {dot, 1, 2}, X#point.x end
abbrev pub field_of_another_record : Type 0
field_of_another_record = outcome_of records functions (T.begin_of (T.match (P.var (codes "X")) (T.tuple (T.atom (codes "dot") ∷ T.int 1 ∷ T.int 2 ∷ [])) ∷ T.value (T.rec_get (T.var (codes "X")) (codes "point") (codes "x")) ∷ [])) ≡ wrong

-- begin X = a, X#point{x = 1} end
abbrev pub change_of_no_tuple : Type 0
change_of_no_tuple = outcome_of records functions (T.begin_of (T.match (P.var (codes "X")) (T.atom (codes "a")) ∷ T.value (T.rec_change (T.var (codes "X")) (codes "point") (T.field (codes "x") (T.int 1) ∷ [])) ∷ [])) ≡ wrong

-- begin X = {point, 1}, X#point{x = 1} end
abbrev pub change_of_another_size : Type 0
change_of_another_size = own_outcomes_44

-- #absent{}
abbrev pub absent_record : Type 0
absent_record = outcome_of records functions (T.rec_new (codes "absent") []) ≡ wrong

-- #point{z = 1}
abbrev pub absent_field_of_a_new_record : Type 0
absent_field_of_a_new_record = outcome_of records functions (T.rec_new (codes "point") (T.field (codes "z") (T.int 1) ∷ [])) ≡ wrong

-- #point{}#point{z = 1}
abbrev pub absent_field_of_a_changed_record : Type 0
absent_field_of_a_changed_record = outcome_of records functions (T.rec_change (T.rec_new (codes "point") []) (codes "point") (T.field (codes "z") (T.int 1) ∷ [])) ≡ wrong

-- #point{}#point.z
abbrev pub absent_field : Type 0
absent_field = outcome_of records functions (T.rec_get (T.rec_new (codes "point") []) (codes "point") (codes "z")) ≡ wrong

-- ---- comprehensions

-- [X || X <- a]
abbrev pub generator_over_no_list : Type 0
generator_over_no_list = own_outcomes_45

-- [throw(X) || X <- [1 | 2]]
abbrev pub generator_over_an_improper_list : Type 0
generator_over_an_improper_list = own_outcomes_47

-- [X || X <- [1], begin X end]
abbrev pub filter_of_no_boolean : Type 0
filter_of_no_boolean = own_outcomes_48

-- ---- names

-- X
abbrev pub unbound_variable : Type 0
unbound_variable = outcome_of records functions (T.var (codes "X")) ≡ wrong

-- begin case 1 of 1 -> X = 2 end, X end
abbrev pub variable_of_a_case : Type 0
variable_of_a_case = own_outcomes_49

-- begin begin X = 2 end, X end
abbrev pub variable_of_a_begin : Type 0
variable_of_a_begin = own_outcomes_50

-- ---- nothing stops wrong

-- try 1 + a catch _:_ -> caught end
abbrev pub catch_of_wrong : Type 0
catch_of_wrong = own_outcomes_25

-- try hd([]) catch error:badarg -> caught after 2 end
abbrev pub catch_and_after_of_wrong : Type 0
catch_and_after_of_wrong = own_outcomes_26

-- try 1 + a after throw(2) end (Erlang raises throw:2)
abbrev pub after_behind_wrong : Type 0
after_behind_wrong = outcome_of records functions (T.try_after (T.value (T.binary B.Add (T.int 1) (T.atom (codes "a"))) ∷ []) [] [] (T.value (T.call (codes "throw") (T.int 2 ∷ [])) ∷ [])) ≡ wrong

-- try throw(1) after 1 + a end
abbrev pub wrong_after_part : Type 0
wrong_after_part = outcome_of records functions (T.try_after (T.value (T.call (codes "throw") (T.int 1 ∷ [])) ∷ []) [] [] (T.value (T.binary B.Add (T.int 1) (T.atom (codes "a"))) ∷ [])) ≡ wrong

-- {1 + a, throw(1)}
abbrev pub part_behind_wrong : Type 0
part_behind_wrong = outcome_of records functions (T.tuple (T.binary B.Add (T.int 1) (T.atom (codes "a")) ∷ T.call (codes "throw") (T.int 1 ∷ []) ∷ [])) ≡ wrong
