-- Examples of runs: built-in functions that tell kinds apart. Written by expressions.escript.
use Rattle.std.specs.Prelude.{◌≡◌, List, [], ◌∷◌, codes}
use Rattle.erl_tree.specs.declared.form.Function.{Function}
use Rattle.erl_tree.specs.declared.form.RecDefKind.{RecDefKind}
use Rattle.erl_tree.specs.declared.expr.UnaryOp.TheVariants as U
use Rattle.erl_runs.specs.Value.{came, raised, throw}
use Rattle.examples_runs.specs.Trees as T
use Rattle.examples_runs.specs.Patterns as P
use Rattle.examples_runs.specs.Outcomes as V
use Rattle.examples_runs.specs.Outcomes.{outcome_of}

-- f(X) -> X.

abbrev pub records : List RecDefKind
records = []

abbrev pub functions : List Function
functions = T.function (codes "f") (T.clause (P.var (codes "X") ∷ []) (T.value (T.var (codes "X")) ∷ []) ∷ []) ∷ []

-- [is_atom(X) || X <- [1, a, true, '', [], [1], {}, #{}, fun f/1]]
abbrev pub kind_tests_1 : Type 0
kind_tests_1 = outcome_of records functions (T.comprehension (T.call (codes "is_atom") (T.var (codes "X") ∷ [])) (T.generator (P.var (codes "X")) (T.list (T.int 1 ∷ T.atom (codes "a") ∷ T.atom (codes "true") ∷ T.atom [] ∷ T.list [] ∷ T.list (T.int 1 ∷ []) ∷ T.tuple [] ∷ T.map_new [] ∷ T.fun_name (codes "f") 1 ∷ [])) ∷ [])) ≡ came (V.list (V.atom (codes "false") ∷ V.atom (codes "true") ∷ V.atom (codes "true") ∷ V.atom (codes "true") ∷ V.atom (codes "false") ∷ V.atom (codes "false") ∷ V.atom (codes "false") ∷ V.atom (codes "false") ∷ V.atom (codes "false") ∷ []))

-- [is_boolean(X) || X <- [1, a, true, false, [], [1], {}, #{}, fun f/1]]
abbrev pub kind_tests_2 : Type 0
kind_tests_2 = outcome_of records functions (T.comprehension (T.call (codes "is_boolean") (T.var (codes "X") ∷ [])) (T.generator (P.var (codes "X")) (T.list (T.int 1 ∷ T.atom (codes "a") ∷ T.atom (codes "true") ∷ T.atom (codes "false") ∷ T.list [] ∷ T.list (T.int 1 ∷ []) ∷ T.tuple [] ∷ T.map_new [] ∷ T.fun_name (codes "f") 1 ∷ [])) ∷ [])) ≡ came (V.list (V.atom (codes "false") ∷ V.atom (codes "false") ∷ V.atom (codes "true") ∷ V.atom (codes "true") ∷ V.atom (codes "false") ∷ V.atom (codes "false") ∷ V.atom (codes "false") ∷ V.atom (codes "false") ∷ V.atom (codes "false") ∷ []))

-- [is_integer(X) || X <- [1, -1, 0, a, true, [], [1], {}, #{}, fun f/1]]
abbrev pub kind_tests_3 : Type 0
kind_tests_3 = outcome_of records functions (T.comprehension (T.call (codes "is_integer") (T.var (codes "X") ∷ [])) (T.generator (P.var (codes "X")) (T.list (T.int 1 ∷ T.unary U.Minus (T.int 1) ∷ T.int 0 ∷ T.atom (codes "a") ∷ T.atom (codes "true") ∷ T.list [] ∷ T.list (T.int 1 ∷ []) ∷ T.tuple [] ∷ T.map_new [] ∷ T.fun_name (codes "f") 1 ∷ [])) ∷ [])) ≡ came (V.list (V.atom (codes "true") ∷ V.atom (codes "true") ∷ V.atom (codes "true") ∷ V.atom (codes "false") ∷ V.atom (codes "false") ∷ V.atom (codes "false") ∷ V.atom (codes "false") ∷ V.atom (codes "false") ∷ V.atom (codes "false") ∷ V.atom (codes "false") ∷ []))

-- [is_list(X) || X <- [1, a, [], [1], [1 | 2], "a", {}, #{}, fun f/1]]
abbrev pub kind_tests_4 : Type 0
kind_tests_4 = outcome_of records functions (T.comprehension (T.call (codes "is_list") (T.var (codes "X") ∷ [])) (T.generator (P.var (codes "X")) (T.list (T.int 1 ∷ T.atom (codes "a") ∷ T.list [] ∷ T.list (T.int 1 ∷ []) ∷ T.list_onto (T.int 1 ∷ []) (T.int 2) ∷ T.text (codes "a") ∷ T.tuple [] ∷ T.map_new [] ∷ T.fun_name (codes "f") 1 ∷ [])) ∷ [])) ≡ came (V.list (V.atom (codes "false") ∷ V.atom (codes "false") ∷ V.atom (codes "true") ∷ V.atom (codes "true") ∷ V.atom (codes "true") ∷ V.atom (codes "true") ∷ V.atom (codes "false") ∷ V.atom (codes "false") ∷ V.atom (codes "false") ∷ []))

-- [is_map(X) || X <- [1, a, [], [1], {}, #{}, #{a => 1}, fun f/1]]
abbrev pub kind_tests_5 : Type 0
kind_tests_5 = outcome_of records functions (T.comprehension (T.call (codes "is_map") (T.var (codes "X") ∷ [])) (T.generator (P.var (codes "X")) (T.list (T.int 1 ∷ T.atom (codes "a") ∷ T.list [] ∷ T.list (T.int 1 ∷ []) ∷ T.tuple [] ∷ T.map_new [] ∷ T.map_new (T.sets (T.atom (codes "a")) (T.int 1) ∷ []) ∷ T.fun_name (codes "f") 1 ∷ [])) ∷ [])) ≡ came (V.list (V.atom (codes "false") ∷ V.atom (codes "false") ∷ V.atom (codes "false") ∷ V.atom (codes "false") ∷ V.atom (codes "false") ∷ V.atom (codes "true") ∷ V.atom (codes "true") ∷ V.atom (codes "false") ∷ []))

-- [is_tuple(X) || X <- [1, a, [], [1], {}, {1}, #{}, fun f/1]]
abbrev pub kind_tests_6 : Type 0
kind_tests_6 = outcome_of records functions (T.comprehension (T.call (codes "is_tuple") (T.var (codes "X") ∷ [])) (T.generator (P.var (codes "X")) (T.list (T.int 1 ∷ T.atom (codes "a") ∷ T.list [] ∷ T.list (T.int 1 ∷ []) ∷ T.tuple [] ∷ T.tuple (T.int 1 ∷ []) ∷ T.map_new [] ∷ T.fun_name (codes "f") 1 ∷ [])) ∷ [])) ≡ came (V.list (V.atom (codes "false") ∷ V.atom (codes "false") ∷ V.atom (codes "false") ∷ V.atom (codes "false") ∷ V.atom (codes "true") ∷ V.atom (codes "true") ∷ V.atom (codes "false") ∷ V.atom (codes "false") ∷ []))

-- [is_function(X) || X <- [1, a, [], [1], {}, #{}, fun f/1, fun() -> 1 end]]
abbrev pub kind_tests_7 : Type 0
kind_tests_7 = outcome_of records functions (T.comprehension (T.call (codes "is_function") (T.var (codes "X") ∷ [])) (T.generator (P.var (codes "X")) (T.list (T.int 1 ∷ T.atom (codes "a") ∷ T.list [] ∷ T.list (T.int 1 ∷ []) ∷ T.tuple [] ∷ T.map_new [] ∷ T.fun_name (codes "f") 1 ∷ T.fun_of (T.clause [] (T.value (T.int 1) ∷ []) ∷ []) ∷ [])) ∷ [])) ≡ came (V.list (V.atom (codes "false") ∷ V.atom (codes "false") ∷ V.atom (codes "false") ∷ V.atom (codes "false") ∷ V.atom (codes "false") ∷ V.atom (codes "false") ∷ V.atom (codes "true") ∷ V.atom (codes "true") ∷ []))

-- [is_function(X, 1) || X <- [1, a, [], {}, #{}, fun f/1, fun() -> 1 end, fun(Y) -> Y end, fun(Y, Z) -> {Y, Z} end]]
abbrev pub kind_tests_8 : Type 0
kind_tests_8 = outcome_of records functions (T.comprehension (T.call (codes "is_function") (T.var (codes "X") ∷ T.int 1 ∷ [])) (T.generator (P.var (codes "X")) (T.list (T.int 1 ∷ T.atom (codes "a") ∷ T.list [] ∷ T.tuple [] ∷ T.map_new [] ∷ T.fun_name (codes "f") 1 ∷ T.fun_of (T.clause [] (T.value (T.int 1) ∷ []) ∷ []) ∷ T.fun_of (T.clause (P.var (codes "Y") ∷ []) (T.value (T.var (codes "Y")) ∷ []) ∷ []) ∷ T.fun_of (T.clause (P.var (codes "Y") ∷ P.var (codes "Z") ∷ []) (T.value (T.tuple (T.var (codes "Y") ∷ T.var (codes "Z") ∷ [])) ∷ []) ∷ []) ∷ [])) ∷ [])) ≡ came (V.list (V.atom (codes "false") ∷ V.atom (codes "false") ∷ V.atom (codes "false") ∷ V.atom (codes "false") ∷ V.atom (codes "false") ∷ V.atom (codes "true") ∷ V.atom (codes "false") ∷ V.atom (codes "true") ∷ V.atom (codes "false") ∷ []))

-- is_function(fun() -> 1 end, 0)
abbrev pub kind_tests_9 : Type 0
kind_tests_9 = outcome_of records functions (T.call (codes "is_function") (T.fun_of (T.clause [] (T.value (T.int 1) ∷ []) ∷ []) ∷ T.int 0 ∷ [])) ≡ came (V.atom (codes "true"))

-- is_function(fun f/1, 2)
abbrev pub kind_tests_10 : Type 0
kind_tests_10 = outcome_of records functions (T.call (codes "is_function") (T.fun_name (codes "f") 1 ∷ T.int 2 ∷ [])) ≡ came (V.atom (codes "false"))

-- is_function(fun(A, B, C) -> {A, B, C} end, 3)
abbrev pub kind_tests_11 : Type 0
kind_tests_11 = outcome_of records functions (T.call (codes "is_function") (T.fun_of (T.clause (P.var (codes "A") ∷ P.var (codes "B") ∷ P.var (codes "C") ∷ []) (T.value (T.tuple (T.var (codes "A") ∷ T.var (codes "B") ∷ T.var (codes "C") ∷ [])) ∷ []) ∷ []) ∷ T.int 3 ∷ [])) ≡ came (V.atom (codes "true"))

-- is_function(fun(a) -> 1; (_) -> 2 end, 1)
abbrev pub kind_tests_12 : Type 0
kind_tests_12 = outcome_of records functions (T.call (codes "is_function") (T.fun_of (T.clause (P.atom (codes "a") ∷ []) (T.value (T.int 1) ∷ []) ∷ T.clause (P.var (codes "_") ∷ []) (T.value (T.int 2) ∷ []) ∷ []) ∷ T.int 1 ∷ [])) ≡ came (V.atom (codes "true"))

-- erlang:is_atom(a)
abbrev pub kind_tests_13 : Type 0
kind_tests_13 = outcome_of records functions (T.erlang_call (codes "is_atom") (T.atom (codes "a") ∷ [])) ≡ came (V.atom (codes "true"))

-- erlang:is_function(fun f/1, 1)
abbrev pub kind_tests_14 : Type 0
kind_tests_14 = outcome_of records functions (T.erlang_call (codes "is_function") (T.fun_name (codes "f") 1 ∷ T.int 1 ∷ [])) ≡ came (V.atom (codes "true"))

-- is_atom(throw(x))
abbrev pub kind_tests_15 : Type 0
kind_tests_15 = outcome_of records functions (T.call (codes "is_atom") (T.call (codes "throw") (T.atom (codes "x") ∷ []) ∷ [])) ≡ raised throw (V.atom (codes "x"))

-- all of them
abbrev pub KindTests : Type 0
KindTests = kind_tests_1 × kind_tests_2 × kind_tests_3 × kind_tests_4 × kind_tests_5 × kind_tests_6 × kind_tests_7 × kind_tests_8 × kind_tests_9 × kind_tests_10 × kind_tests_11 × kind_tests_12 × kind_tests_13 × kind_tests_14 × kind_tests_15
