-- Examples of runs: comparisons across the kinds of values. Written by expressions.escript.
use Rattle.std.specs.Prelude.{◌≡◌, List, [], ◌∷◌, codes}
use Rattle.erl_tree.specs.declared.form.Function.{Function}
use Rattle.erl_tree.specs.declared.form.RecDefKind.{RecDefKind}
use Rattle.erl_tree.specs.declared.expr.BinaryOp.TheVariants as B
use Rattle.erl_runs.specs.Value.{came}
use Rattle.examples_runs.specs.Trees as T
use Rattle.examples_runs.specs.Patterns as P
use Rattle.examples_runs.specs.Outcomes as V
use Rattle.examples_runs.specs.Outcomes.{outcome_of}

-- f() -> 1.

abbrev pub records : List RecDefKind
records = []

abbrev pub functions : List Function
functions = T.function (codes "f") (T.clause [] (T.value (T.int 1) ∷ []) ∷ []) ∷ []

-- begin L = [1, a, fun f/0, {}, #{}, [], [1]], [[X < Y || Y <- L] || X <- L] end
abbrev pub kinds_in_order_1 : Type 0
kinds_in_order_1 = outcome_of records functions (T.begin_of (T.match (P.var (codes "L")) (T.list (T.int 1 ∷ T.atom (codes "a") ∷ T.fun_name (codes "f") 0 ∷ T.tuple [] ∷ T.map_new [] ∷ T.list [] ∷ T.list (T.int 1 ∷ []) ∷ [])) ∷ T.value (T.comprehension (T.comprehension (T.binary B.Lt (T.var (codes "X")) (T.var (codes "Y"))) (T.generator (P.var (codes "Y")) (T.var (codes "L")) ∷ [])) (T.generator (P.var (codes "X")) (T.var (codes "L")) ∷ [])) ∷ [])) ≡ came (V.list (V.list (V.atom (codes "false") ∷ V.atom (codes "true") ∷ V.atom (codes "true") ∷ V.atom (codes "true") ∷ V.atom (codes "true") ∷ V.atom (codes "true") ∷ V.atom (codes "true") ∷ []) ∷ V.list (V.atom (codes "false") ∷ V.atom (codes "false") ∷ V.atom (codes "true") ∷ V.atom (codes "true") ∷ V.atom (codes "true") ∷ V.atom (codes "true") ∷ V.atom (codes "true") ∷ []) ∷ V.list (V.atom (codes "false") ∷ V.atom (codes "false") ∷ V.atom (codes "false") ∷ V.atom (codes "true") ∷ V.atom (codes "true") ∷ V.atom (codes "true") ∷ V.atom (codes "true") ∷ []) ∷ V.list (V.atom (codes "false") ∷ V.atom (codes "false") ∷ V.atom (codes "false") ∷ V.atom (codes "false") ∷ V.atom (codes "true") ∷ V.atom (codes "true") ∷ V.atom (codes "true") ∷ []) ∷ V.list (V.atom (codes "false") ∷ V.atom (codes "false") ∷ V.atom (codes "false") ∷ V.atom (codes "false") ∷ V.atom (codes "false") ∷ V.atom (codes "true") ∷ V.atom (codes "true") ∷ []) ∷ V.list (V.atom (codes "false") ∷ V.atom (codes "false") ∷ V.atom (codes "false") ∷ V.atom (codes "false") ∷ V.atom (codes "false") ∷ V.atom (codes "false") ∷ V.atom (codes "true") ∷ []) ∷ V.list (V.atom (codes "false") ∷ V.atom (codes "false") ∷ V.atom (codes "false") ∷ V.atom (codes "false") ∷ V.atom (codes "false") ∷ V.atom (codes "false") ∷ V.atom (codes "false") ∷ []) ∷ []))

-- begin L = [1, a, fun f/0, {}, #{}, [], [1]], [[X > Y || Y <- L] || X <- L] end
abbrev pub kinds_in_order_2 : Type 0
kinds_in_order_2 = outcome_of records functions (T.begin_of (T.match (P.var (codes "L")) (T.list (T.int 1 ∷ T.atom (codes "a") ∷ T.fun_name (codes "f") 0 ∷ T.tuple [] ∷ T.map_new [] ∷ T.list [] ∷ T.list (T.int 1 ∷ []) ∷ [])) ∷ T.value (T.comprehension (T.comprehension (T.binary B.Gt (T.var (codes "X")) (T.var (codes "Y"))) (T.generator (P.var (codes "Y")) (T.var (codes "L")) ∷ [])) (T.generator (P.var (codes "X")) (T.var (codes "L")) ∷ [])) ∷ [])) ≡ came (V.list (V.list (V.atom (codes "false") ∷ V.atom (codes "false") ∷ V.atom (codes "false") ∷ V.atom (codes "false") ∷ V.atom (codes "false") ∷ V.atom (codes "false") ∷ V.atom (codes "false") ∷ []) ∷ V.list (V.atom (codes "true") ∷ V.atom (codes "false") ∷ V.atom (codes "false") ∷ V.atom (codes "false") ∷ V.atom (codes "false") ∷ V.atom (codes "false") ∷ V.atom (codes "false") ∷ []) ∷ V.list (V.atom (codes "true") ∷ V.atom (codes "true") ∷ V.atom (codes "false") ∷ V.atom (codes "false") ∷ V.atom (codes "false") ∷ V.atom (codes "false") ∷ V.atom (codes "false") ∷ []) ∷ V.list (V.atom (codes "true") ∷ V.atom (codes "true") ∷ V.atom (codes "true") ∷ V.atom (codes "false") ∷ V.atom (codes "false") ∷ V.atom (codes "false") ∷ V.atom (codes "false") ∷ []) ∷ V.list (V.atom (codes "true") ∷ V.atom (codes "true") ∷ V.atom (codes "true") ∷ V.atom (codes "true") ∷ V.atom (codes "false") ∷ V.atom (codes "false") ∷ V.atom (codes "false") ∷ []) ∷ V.list (V.atom (codes "true") ∷ V.atom (codes "true") ∷ V.atom (codes "true") ∷ V.atom (codes "true") ∷ V.atom (codes "true") ∷ V.atom (codes "false") ∷ V.atom (codes "false") ∷ []) ∷ V.list (V.atom (codes "true") ∷ V.atom (codes "true") ∷ V.atom (codes "true") ∷ V.atom (codes "true") ∷ V.atom (codes "true") ∷ V.atom (codes "true") ∷ V.atom (codes "false") ∷ []) ∷ []))

-- begin L = [1, a, fun f/0, {}, #{}, [], [1]], [[X =< Y || Y <- L] || X <- L] end
abbrev pub kinds_in_order_3 : Type 0
kinds_in_order_3 = outcome_of records functions (T.begin_of (T.match (P.var (codes "L")) (T.list (T.int 1 ∷ T.atom (codes "a") ∷ T.fun_name (codes "f") 0 ∷ T.tuple [] ∷ T.map_new [] ∷ T.list [] ∷ T.list (T.int 1 ∷ []) ∷ [])) ∷ T.value (T.comprehension (T.comprehension (T.binary B.Le (T.var (codes "X")) (T.var (codes "Y"))) (T.generator (P.var (codes "Y")) (T.var (codes "L")) ∷ [])) (T.generator (P.var (codes "X")) (T.var (codes "L")) ∷ [])) ∷ [])) ≡ came (V.list (V.list (V.atom (codes "true") ∷ V.atom (codes "true") ∷ V.atom (codes "true") ∷ V.atom (codes "true") ∷ V.atom (codes "true") ∷ V.atom (codes "true") ∷ V.atom (codes "true") ∷ []) ∷ V.list (V.atom (codes "false") ∷ V.atom (codes "true") ∷ V.atom (codes "true") ∷ V.atom (codes "true") ∷ V.atom (codes "true") ∷ V.atom (codes "true") ∷ V.atom (codes "true") ∷ []) ∷ V.list (V.atom (codes "false") ∷ V.atom (codes "false") ∷ V.atom (codes "true") ∷ V.atom (codes "true") ∷ V.atom (codes "true") ∷ V.atom (codes "true") ∷ V.atom (codes "true") ∷ []) ∷ V.list (V.atom (codes "false") ∷ V.atom (codes "false") ∷ V.atom (codes "false") ∷ V.atom (codes "true") ∷ V.atom (codes "true") ∷ V.atom (codes "true") ∷ V.atom (codes "true") ∷ []) ∷ V.list (V.atom (codes "false") ∷ V.atom (codes "false") ∷ V.atom (codes "false") ∷ V.atom (codes "false") ∷ V.atom (codes "true") ∷ V.atom (codes "true") ∷ V.atom (codes "true") ∷ []) ∷ V.list (V.atom (codes "false") ∷ V.atom (codes "false") ∷ V.atom (codes "false") ∷ V.atom (codes "false") ∷ V.atom (codes "false") ∷ V.atom (codes "true") ∷ V.atom (codes "true") ∷ []) ∷ V.list (V.atom (codes "false") ∷ V.atom (codes "false") ∷ V.atom (codes "false") ∷ V.atom (codes "false") ∷ V.atom (codes "false") ∷ V.atom (codes "false") ∷ V.atom (codes "true") ∷ []) ∷ []))

-- begin L = [1, a, fun f/0, {}, #{}, [], [1]], [[X >= Y || Y <- L] || X <- L] end
abbrev pub kinds_in_order_4 : Type 0
kinds_in_order_4 = outcome_of records functions (T.begin_of (T.match (P.var (codes "L")) (T.list (T.int 1 ∷ T.atom (codes "a") ∷ T.fun_name (codes "f") 0 ∷ T.tuple [] ∷ T.map_new [] ∷ T.list [] ∷ T.list (T.int 1 ∷ []) ∷ [])) ∷ T.value (T.comprehension (T.comprehension (T.binary B.Ge (T.var (codes "X")) (T.var (codes "Y"))) (T.generator (P.var (codes "Y")) (T.var (codes "L")) ∷ [])) (T.generator (P.var (codes "X")) (T.var (codes "L")) ∷ [])) ∷ [])) ≡ came (V.list (V.list (V.atom (codes "true") ∷ V.atom (codes "false") ∷ V.atom (codes "false") ∷ V.atom (codes "false") ∷ V.atom (codes "false") ∷ V.atom (codes "false") ∷ V.atom (codes "false") ∷ []) ∷ V.list (V.atom (codes "true") ∷ V.atom (codes "true") ∷ V.atom (codes "false") ∷ V.atom (codes "false") ∷ V.atom (codes "false") ∷ V.atom (codes "false") ∷ V.atom (codes "false") ∷ []) ∷ V.list (V.atom (codes "true") ∷ V.atom (codes "true") ∷ V.atom (codes "true") ∷ V.atom (codes "false") ∷ V.atom (codes "false") ∷ V.atom (codes "false") ∷ V.atom (codes "false") ∷ []) ∷ V.list (V.atom (codes "true") ∷ V.atom (codes "true") ∷ V.atom (codes "true") ∷ V.atom (codes "true") ∷ V.atom (codes "false") ∷ V.atom (codes "false") ∷ V.atom (codes "false") ∷ []) ∷ V.list (V.atom (codes "true") ∷ V.atom (codes "true") ∷ V.atom (codes "true") ∷ V.atom (codes "true") ∷ V.atom (codes "true") ∷ V.atom (codes "false") ∷ V.atom (codes "false") ∷ []) ∷ V.list (V.atom (codes "true") ∷ V.atom (codes "true") ∷ V.atom (codes "true") ∷ V.atom (codes "true") ∷ V.atom (codes "true") ∷ V.atom (codes "true") ∷ V.atom (codes "false") ∷ []) ∷ V.list (V.atom (codes "true") ∷ V.atom (codes "true") ∷ V.atom (codes "true") ∷ V.atom (codes "true") ∷ V.atom (codes "true") ∷ V.atom (codes "true") ∷ V.atom (codes "true") ∷ []) ∷ []))

-- begin L = [1, a, fun f/0, {}, #{}, [], [1]], [[X == Y || Y <- L] || X <- L] end
abbrev pub kinds_in_order_5 : Type 0
kinds_in_order_5 = outcome_of records functions (T.begin_of (T.match (P.var (codes "L")) (T.list (T.int 1 ∷ T.atom (codes "a") ∷ T.fun_name (codes "f") 0 ∷ T.tuple [] ∷ T.map_new [] ∷ T.list [] ∷ T.list (T.int 1 ∷ []) ∷ [])) ∷ T.value (T.comprehension (T.comprehension (T.binary B.Eq (T.var (codes "X")) (T.var (codes "Y"))) (T.generator (P.var (codes "Y")) (T.var (codes "L")) ∷ [])) (T.generator (P.var (codes "X")) (T.var (codes "L")) ∷ [])) ∷ [])) ≡ came (V.list (V.list (V.atom (codes "true") ∷ V.atom (codes "false") ∷ V.atom (codes "false") ∷ V.atom (codes "false") ∷ V.atom (codes "false") ∷ V.atom (codes "false") ∷ V.atom (codes "false") ∷ []) ∷ V.list (V.atom (codes "false") ∷ V.atom (codes "true") ∷ V.atom (codes "false") ∷ V.atom (codes "false") ∷ V.atom (codes "false") ∷ V.atom (codes "false") ∷ V.atom (codes "false") ∷ []) ∷ V.list (V.atom (codes "false") ∷ V.atom (codes "false") ∷ V.atom (codes "true") ∷ V.atom (codes "false") ∷ V.atom (codes "false") ∷ V.atom (codes "false") ∷ V.atom (codes "false") ∷ []) ∷ V.list (V.atom (codes "false") ∷ V.atom (codes "false") ∷ V.atom (codes "false") ∷ V.atom (codes "true") ∷ V.atom (codes "false") ∷ V.atom (codes "false") ∷ V.atom (codes "false") ∷ []) ∷ V.list (V.atom (codes "false") ∷ V.atom (codes "false") ∷ V.atom (codes "false") ∷ V.atom (codes "false") ∷ V.atom (codes "true") ∷ V.atom (codes "false") ∷ V.atom (codes "false") ∷ []) ∷ V.list (V.atom (codes "false") ∷ V.atom (codes "false") ∷ V.atom (codes "false") ∷ V.atom (codes "false") ∷ V.atom (codes "false") ∷ V.atom (codes "true") ∷ V.atom (codes "false") ∷ []) ∷ V.list (V.atom (codes "false") ∷ V.atom (codes "false") ∷ V.atom (codes "false") ∷ V.atom (codes "false") ∷ V.atom (codes "false") ∷ V.atom (codes "false") ∷ V.atom (codes "true") ∷ []) ∷ []))

-- begin L = [1, a, fun f/0, {}, #{}, [], [1]], [[X /= Y || Y <- L] || X <- L] end
abbrev pub kinds_in_order_6 : Type 0
kinds_in_order_6 = outcome_of records functions (T.begin_of (T.match (P.var (codes "L")) (T.list (T.int 1 ∷ T.atom (codes "a") ∷ T.fun_name (codes "f") 0 ∷ T.tuple [] ∷ T.map_new [] ∷ T.list [] ∷ T.list (T.int 1 ∷ []) ∷ [])) ∷ T.value (T.comprehension (T.comprehension (T.binary B.Ne (T.var (codes "X")) (T.var (codes "Y"))) (T.generator (P.var (codes "Y")) (T.var (codes "L")) ∷ [])) (T.generator (P.var (codes "X")) (T.var (codes "L")) ∷ [])) ∷ [])) ≡ came (V.list (V.list (V.atom (codes "false") ∷ V.atom (codes "true") ∷ V.atom (codes "true") ∷ V.atom (codes "true") ∷ V.atom (codes "true") ∷ V.atom (codes "true") ∷ V.atom (codes "true") ∷ []) ∷ V.list (V.atom (codes "true") ∷ V.atom (codes "false") ∷ V.atom (codes "true") ∷ V.atom (codes "true") ∷ V.atom (codes "true") ∷ V.atom (codes "true") ∷ V.atom (codes "true") ∷ []) ∷ V.list (V.atom (codes "true") ∷ V.atom (codes "true") ∷ V.atom (codes "false") ∷ V.atom (codes "true") ∷ V.atom (codes "true") ∷ V.atom (codes "true") ∷ V.atom (codes "true") ∷ []) ∷ V.list (V.atom (codes "true") ∷ V.atom (codes "true") ∷ V.atom (codes "true") ∷ V.atom (codes "false") ∷ V.atom (codes "true") ∷ V.atom (codes "true") ∷ V.atom (codes "true") ∷ []) ∷ V.list (V.atom (codes "true") ∷ V.atom (codes "true") ∷ V.atom (codes "true") ∷ V.atom (codes "true") ∷ V.atom (codes "false") ∷ V.atom (codes "true") ∷ V.atom (codes "true") ∷ []) ∷ V.list (V.atom (codes "true") ∷ V.atom (codes "true") ∷ V.atom (codes "true") ∷ V.atom (codes "true") ∷ V.atom (codes "true") ∷ V.atom (codes "false") ∷ V.atom (codes "true") ∷ []) ∷ V.list (V.atom (codes "true") ∷ V.atom (codes "true") ∷ V.atom (codes "true") ∷ V.atom (codes "true") ∷ V.atom (codes "true") ∷ V.atom (codes "true") ∷ V.atom (codes "false") ∷ []) ∷ []))

-- begin L = [1, a, fun f/0, {}, #{}, [], [1]], [[X =:= Y || Y <- L] || X <- L] end
abbrev pub kinds_in_order_7 : Type 0
kinds_in_order_7 = outcome_of records functions (T.begin_of (T.match (P.var (codes "L")) (T.list (T.int 1 ∷ T.atom (codes "a") ∷ T.fun_name (codes "f") 0 ∷ T.tuple [] ∷ T.map_new [] ∷ T.list [] ∷ T.list (T.int 1 ∷ []) ∷ [])) ∷ T.value (T.comprehension (T.comprehension (T.binary B.ExactEq (T.var (codes "X")) (T.var (codes "Y"))) (T.generator (P.var (codes "Y")) (T.var (codes "L")) ∷ [])) (T.generator (P.var (codes "X")) (T.var (codes "L")) ∷ [])) ∷ [])) ≡ came (V.list (V.list (V.atom (codes "true") ∷ V.atom (codes "false") ∷ V.atom (codes "false") ∷ V.atom (codes "false") ∷ V.atom (codes "false") ∷ V.atom (codes "false") ∷ V.atom (codes "false") ∷ []) ∷ V.list (V.atom (codes "false") ∷ V.atom (codes "true") ∷ V.atom (codes "false") ∷ V.atom (codes "false") ∷ V.atom (codes "false") ∷ V.atom (codes "false") ∷ V.atom (codes "false") ∷ []) ∷ V.list (V.atom (codes "false") ∷ V.atom (codes "false") ∷ V.atom (codes "true") ∷ V.atom (codes "false") ∷ V.atom (codes "false") ∷ V.atom (codes "false") ∷ V.atom (codes "false") ∷ []) ∷ V.list (V.atom (codes "false") ∷ V.atom (codes "false") ∷ V.atom (codes "false") ∷ V.atom (codes "true") ∷ V.atom (codes "false") ∷ V.atom (codes "false") ∷ V.atom (codes "false") ∷ []) ∷ V.list (V.atom (codes "false") ∷ V.atom (codes "false") ∷ V.atom (codes "false") ∷ V.atom (codes "false") ∷ V.atom (codes "true") ∷ V.atom (codes "false") ∷ V.atom (codes "false") ∷ []) ∷ V.list (V.atom (codes "false") ∷ V.atom (codes "false") ∷ V.atom (codes "false") ∷ V.atom (codes "false") ∷ V.atom (codes "false") ∷ V.atom (codes "true") ∷ V.atom (codes "false") ∷ []) ∷ V.list (V.atom (codes "false") ∷ V.atom (codes "false") ∷ V.atom (codes "false") ∷ V.atom (codes "false") ∷ V.atom (codes "false") ∷ V.atom (codes "false") ∷ V.atom (codes "true") ∷ []) ∷ []))

-- begin L = [1, a, fun f/0, {}, #{}, [], [1]], [[X =/= Y || Y <- L] || X <- L] end
abbrev pub kinds_in_order_8 : Type 0
kinds_in_order_8 = outcome_of records functions (T.begin_of (T.match (P.var (codes "L")) (T.list (T.int 1 ∷ T.atom (codes "a") ∷ T.fun_name (codes "f") 0 ∷ T.tuple [] ∷ T.map_new [] ∷ T.list [] ∷ T.list (T.int 1 ∷ []) ∷ [])) ∷ T.value (T.comprehension (T.comprehension (T.binary B.ExactNe (T.var (codes "X")) (T.var (codes "Y"))) (T.generator (P.var (codes "Y")) (T.var (codes "L")) ∷ [])) (T.generator (P.var (codes "X")) (T.var (codes "L")) ∷ [])) ∷ [])) ≡ came (V.list (V.list (V.atom (codes "false") ∷ V.atom (codes "true") ∷ V.atom (codes "true") ∷ V.atom (codes "true") ∷ V.atom (codes "true") ∷ V.atom (codes "true") ∷ V.atom (codes "true") ∷ []) ∷ V.list (V.atom (codes "true") ∷ V.atom (codes "false") ∷ V.atom (codes "true") ∷ V.atom (codes "true") ∷ V.atom (codes "true") ∷ V.atom (codes "true") ∷ V.atom (codes "true") ∷ []) ∷ V.list (V.atom (codes "true") ∷ V.atom (codes "true") ∷ V.atom (codes "false") ∷ V.atom (codes "true") ∷ V.atom (codes "true") ∷ V.atom (codes "true") ∷ V.atom (codes "true") ∷ []) ∷ V.list (V.atom (codes "true") ∷ V.atom (codes "true") ∷ V.atom (codes "true") ∷ V.atom (codes "false") ∷ V.atom (codes "true") ∷ V.atom (codes "true") ∷ V.atom (codes "true") ∷ []) ∷ V.list (V.atom (codes "true") ∷ V.atom (codes "true") ∷ V.atom (codes "true") ∷ V.atom (codes "true") ∷ V.atom (codes "false") ∷ V.atom (codes "true") ∷ V.atom (codes "true") ∷ []) ∷ V.list (V.atom (codes "true") ∷ V.atom (codes "true") ∷ V.atom (codes "true") ∷ V.atom (codes "true") ∷ V.atom (codes "true") ∷ V.atom (codes "false") ∷ V.atom (codes "true") ∷ []) ∷ V.list (V.atom (codes "true") ∷ V.atom (codes "true") ∷ V.atom (codes "true") ∷ V.atom (codes "true") ∷ V.atom (codes "true") ∷ V.atom (codes "true") ∷ V.atom (codes "false") ∷ []) ∷ []))

-- begin F = fun() -> 1 end, [X < F || X <- [1, a, {}, #{}, [], [1]]] end
abbrev pub kinds_in_order_9 : Type 0
kinds_in_order_9 = outcome_of records functions (T.begin_of (T.match (P.var (codes "F")) (T.fun_of (T.clause [] (T.value (T.int 1) ∷ []) ∷ [])) ∷ T.value (T.comprehension (T.binary B.Lt (T.var (codes "X")) (T.var (codes "F"))) (T.generator (P.var (codes "X")) (T.list (T.int 1 ∷ T.atom (codes "a") ∷ T.tuple [] ∷ T.map_new [] ∷ T.list [] ∷ T.list (T.int 1 ∷ []) ∷ [])) ∷ [])) ∷ [])) ≡ came (V.list (V.atom (codes "true") ∷ V.atom (codes "true") ∷ V.atom (codes "false") ∷ V.atom (codes "false") ∷ V.atom (codes "false") ∷ V.atom (codes "false") ∷ []))

-- begin F = fun() -> 1 end, {F == F, F < F, F =< F, F =/= F} end
abbrev pub kinds_in_order_10 : Type 0
kinds_in_order_10 = outcome_of records functions (T.begin_of (T.match (P.var (codes "F")) (T.fun_of (T.clause [] (T.value (T.int 1) ∷ []) ∷ [])) ∷ T.value (T.tuple (T.binary B.Eq (T.var (codes "F")) (T.var (codes "F")) ∷ T.binary B.Lt (T.var (codes "F")) (T.var (codes "F")) ∷ T.binary B.Le (T.var (codes "F")) (T.var (codes "F")) ∷ T.binary B.ExactNe (T.var (codes "F")) (T.var (codes "F")) ∷ [])) ∷ [])) ≡ came (V.tuple (V.atom (codes "true") ∷ V.atom (codes "false") ∷ V.atom (codes "true") ∷ V.atom (codes "false") ∷ []))

-- begin M = fun(N) -> fun() -> N end end, {M(1) == M(1), M(1) == M(2), M(1) < M(2)} end
abbrev pub kinds_in_order_11 : Type 0
kinds_in_order_11 = outcome_of records functions (T.begin_of (T.match (P.var (codes "M")) (T.fun_of (T.clause (P.var (codes "N") ∷ []) (T.value (T.fun_of (T.clause [] (T.value (T.var (codes "N")) ∷ []) ∷ [])) ∷ []) ∷ [])) ∷ T.value (T.tuple (T.binary B.Eq (T.apply (T.var (codes "M")) (T.int 1 ∷ [])) (T.apply (T.var (codes "M")) (T.int 1 ∷ [])) ∷ T.binary B.Eq (T.apply (T.var (codes "M")) (T.int 1 ∷ [])) (T.apply (T.var (codes "M")) (T.int 2 ∷ [])) ∷ T.binary B.Lt (T.apply (T.var (codes "M")) (T.int 1 ∷ [])) (T.apply (T.var (codes "M")) (T.int 2 ∷ [])) ∷ [])) ∷ [])) ≡ came (V.tuple (V.atom (codes "true") ∷ V.atom (codes "false") ∷ V.atom (codes "true") ∷ []))

-- fun(X) -> X end == fun(X) -> X end
abbrev pub kinds_in_order_12 : Type 0
kinds_in_order_12 = outcome_of records functions (T.binary B.Eq (T.fun_of (T.clause (P.var (codes "X") ∷ []) (T.value (T.var (codes "X")) ∷ []) ∷ [])) (T.fun_of (T.clause (P.var (codes "X") ∷ []) (T.value (T.var (codes "X")) ∷ []) ∷ []))) ≡ came (V.atom (codes "false"))

-- {1, a} < {1, {}}
abbrev pub kinds_in_order_13 : Type 0
kinds_in_order_13 = outcome_of records functions (T.binary B.Lt (T.tuple (T.int 1 ∷ T.atom (codes "a") ∷ [])) (T.tuple (T.int 1 ∷ T.tuple [] ∷ []))) ≡ came (V.atom (codes "true"))

-- [1, a] < [1, {}]
abbrev pub kinds_in_order_14 : Type 0
kinds_in_order_14 = outcome_of records functions (T.binary B.Lt (T.list (T.int 1 ∷ T.atom (codes "a") ∷ [])) (T.list (T.int 1 ∷ T.tuple [] ∷ []))) ≡ came (V.atom (codes "true"))

-- [a | 1] < [a | b]
abbrev pub kinds_in_order_15 : Type 0
kinds_in_order_15 = outcome_of records functions (T.binary B.Lt (T.list_onto (T.atom (codes "a") ∷ []) (T.int 1)) (T.list_onto (T.atom (codes "a") ∷ []) (T.atom (codes "b")))) ≡ came (V.atom (codes "true"))

-- {[], 1} < {[1], 0}
abbrev pub kinds_in_order_16 : Type 0
kinds_in_order_16 = outcome_of records functions (T.binary B.Lt (T.tuple (T.list [] ∷ T.int 1 ∷ [])) (T.tuple (T.list (T.int 1 ∷ []) ∷ T.int 0 ∷ []))) ≡ came (V.atom (codes "true"))

-- all of them
abbrev pub KindsInOrder : Type 0
KindsInOrder = kinds_in_order_1 × kinds_in_order_2 × kinds_in_order_3 × kinds_in_order_4 × kinds_in_order_5 × kinds_in_order_6 × kinds_in_order_7 × kinds_in_order_8 × kinds_in_order_9 × kinds_in_order_10 × kinds_in_order_11 × kinds_in_order_12 × kinds_in_order_13 × kinds_in_order_14 × kinds_in_order_15 × kinds_in_order_16
