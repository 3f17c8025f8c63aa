-- Examples of runs: calls of functions. Written by expressions.escript.
use Rattle.std.specs.Prelude.{◌≡◌, List, [], ◌∷◌, codes}
use Rattle.erl_tree.specs.declared.form.Function.{Function}
use Rattle.erl_tree.specs.declared.form.RecDefKind.{RecDefKind}
use Rattle.erl_tree.specs.declared.expr.BinaryOp.TheVariants as B
use Rattle.erl_runs.specs.Value.{came}
use Rattle.examples_runs.specs.Trees as T
use Rattle.examples_runs.specs.Patterns as P
use Rattle.examples_runs.specs.Outcomes as V
use Rattle.examples_runs.specs.Outcomes.{outcome_of}

-- fact(0) -> 1; fact(N) -> N * fact(N - 1).
-- even(0) -> true; even(N) -> odd(N - 1).
-- odd(0) -> false; odd(N) -> even(N - 1).
-- map(_, []) -> []; map(F, [X | Xs]) -> [F(X) | map(F, Xs)].
-- fold(_, A, []) -> A; fold(F, A, [X | Xs]) -> fold(F, F(X, A), Xs).
-- same(X, X) -> true; same(_, _) -> false.
-- larger(X, Y) when X >= Y -> X; larger(_, Y) -> Y.
-- sort(T) when is_tuple(T); is_map(T) -> sized; sort(_) -> other.
-- arity() -> none.
-- arity(_) -> one.
-- arity(_, _) -> two.
-- swap({A, B}) -> C = B, {C, A}.

abbrev pub records : List RecDefKind
records = []

abbrev pub functions : List Function
functions = T.function (codes "fact") (T.clause (P.int 0 ∷ []) (T.value (T.int 1) ∷ []) ∷ T.clause (P.var (codes "N") ∷ []) (T.value (T.binary B.Mul (T.var (codes "N")) (T.call (codes "fact") (T.binary B.Sub (T.var (codes "N")) (T.int 1) ∷ []))) ∷ []) ∷ []) ∷ T.function (codes "even") (T.clause (P.int 0 ∷ []) (T.value (T.atom (codes "true")) ∷ []) ∷ T.clause (P.var (codes "N") ∷ []) (T.value (T.call (codes "odd") (T.binary B.Sub (T.var (codes "N")) (T.int 1) ∷ [])) ∷ []) ∷ []) ∷ T.function (codes "odd") (T.clause (P.int 0 ∷ []) (T.value (T.atom (codes "false")) ∷ []) ∷ T.clause (P.var (codes "N") ∷ []) (T.value (T.call (codes "even") (T.binary B.Sub (T.var (codes "N")) (T.int 1) ∷ [])) ∷ []) ∷ []) ∷ T.function (codes "map") (T.clause (P.var (codes "_") ∷ P.list [] ∷ []) (T.value (T.list []) ∷ []) ∷ T.clause (P.var (codes "F") ∷ P.list_onto (P.var (codes "X") ∷ []) (P.var (codes "Xs")) ∷ []) (T.value (T.list_onto (T.apply (T.var (codes "F")) (T.var (codes "X") ∷ []) ∷ []) (T.call (codes "map") (T.var (codes "F") ∷ T.var (codes "Xs") ∷ []))) ∷ []) ∷ []) ∷ T.function (codes "fold") (T.clause (P.var (codes "_") ∷ P.var (codes "A") ∷ P.list [] ∷ []) (T.value (T.var (codes "A")) ∷ []) ∷ T.clause (P.var (codes "F") ∷ P.var (codes "A") ∷ P.list_onto (P.var (codes "X") ∷ []) (P.var (codes "Xs")) ∷ []) (T.value (T.call (codes "fold") (T.var (codes "F") ∷ T.apply (T.var (codes "F")) (T.var (codes "X") ∷ T.var (codes "A") ∷ []) ∷ T.var (codes "Xs") ∷ [])) ∷ []) ∷ []) ∷ T.function (codes "same") (T.clause (P.var (codes "X") ∷ P.var (codes "X") ∷ []) (T.value (T.atom (codes "true")) ∷ []) ∷ T.clause (P.var (codes "_") ∷ P.var (codes "_") ∷ []) (T.value (T.atom (codes "false")) ∷ []) ∷ []) ∷ T.function (codes "larger") (T.clause_when (P.var (codes "X") ∷ P.var (codes "Y") ∷ []) ((T.binary B.Ge (T.var (codes "X")) (T.var (codes "Y")) ∷ []) ∷ []) (T.value (T.var (codes "X")) ∷ []) ∷ T.clause (P.var (codes "_") ∷ P.var (codes "Y") ∷ []) (T.value (T.var (codes "Y")) ∷ []) ∷ []) ∷ T.function (codes "sort") (T.clause_when (P.var (codes "T") ∷ []) ((T.call (codes "is_tuple") (T.var (codes "T") ∷ []) ∷ []) ∷ (T.call (codes "is_map") (T.var (codes "T") ∷ []) ∷ []) ∷ []) (T.value (T.atom (codes "sized")) ∷ []) ∷ T.clause (P.var (codes "_") ∷ []) (T.value (T.atom (codes "other")) ∷ []) ∷ []) ∷ T.function (codes "arity") (T.clause [] (T.value (T.atom (codes "none")) ∷ []) ∷ []) ∷ T.function (codes "arity") (T.clause (P.var (codes "_") ∷ []) (T.value (T.atom (codes "one")) ∷ []) ∷ []) ∷ T.function (codes "arity") (T.clause (P.var (codes "_") ∷ P.var (codes "_") ∷ []) (T.value (T.atom (codes "two")) ∷ []) ∷ []) ∷ T.function (codes "swap") (T.clause (P.tuple (P.var (codes "A") ∷ P.var (codes "B") ∷ []) ∷ []) (T.match (P.var (codes "C")) (T.var (codes "B")) ∷ T.value (T.tuple (T.var (codes "C") ∷ T.var (codes "A") ∷ [])) ∷ []) ∷ []) ∷ []

-- fact(5)
abbrev pub functions_1 : Type 0
functions_1 = outcome_of records functions (T.call (codes "fact") (T.int 5 ∷ [])) ≡ came (V.int 120)

-- fact(20)
abbrev pub functions_2 : Type 0
functions_2 = outcome_of records functions (T.call (codes "fact") (T.int 20 ∷ [])) ≡ came (V.int 2432902008176640000)

-- {even(6), even(7), odd(3)}
abbrev pub functions_3 : Type 0
functions_3 = outcome_of records functions (T.tuple (T.call (codes "even") (T.int 6 ∷ []) ∷ T.call (codes "even") (T.int 7 ∷ []) ∷ T.call (codes "odd") (T.int 3 ∷ []) ∷ [])) ≡ came (V.tuple (V.atom (codes "true") ∷ V.atom (codes "false") ∷ V.atom (codes "true") ∷ []))

-- map(fun(X) -> X * X end, [1, 2, 3])
abbrev pub functions_4 : Type 0
functions_4 = outcome_of records functions (T.call (codes "map") (T.fun_of (T.clause (P.var (codes "X") ∷ []) (T.value (T.binary B.Mul (T.var (codes "X")) (T.var (codes "X"))) ∷ []) ∷ []) ∷ T.list (T.int 1 ∷ T.int 2 ∷ T.int 3 ∷ []) ∷ [])) ≡ came (V.list (V.int 1 ∷ V.int 4 ∷ V.int 9 ∷ []))

-- map(fun fact/1, [1, 2, 3, 4])
abbrev pub functions_5 : Type 0
functions_5 = outcome_of records functions (T.call (codes "map") (T.fun_name (codes "fact") 1 ∷ T.list (T.int 1 ∷ T.int 2 ∷ T.int 3 ∷ T.int 4 ∷ []) ∷ [])) ≡ came (V.list (V.int 1 ∷ V.int 2 ∷ V.int 6 ∷ V.int 24 ∷ []))

-- fold(fun(X, A) -> X + A end, 0, [1, 2, 3])
abbrev pub functions_6 : Type 0
functions_6 = outcome_of records functions (T.call (codes "fold") (T.fun_of (T.clause (P.var (codes "X") ∷ P.var (codes "A") ∷ []) (T.value (T.binary B.Add (T.var (codes "X")) (T.var (codes "A"))) ∷ []) ∷ []) ∷ T.int 0 ∷ T.list (T.int 1 ∷ T.int 2 ∷ T.int 3 ∷ []) ∷ [])) ≡ came (V.int 6)

-- fold(fun(X, A) -> [X | A] end, [], [1, 2, 3])
abbrev pub functions_7 : Type 0
functions_7 = outcome_of records functions (T.call (codes "fold") (T.fun_of (T.clause (P.var (codes "X") ∷ P.var (codes "A") ∷ []) (T.value (T.list_onto (T.var (codes "X") ∷ []) (T.var (codes "A"))) ∷ []) ∷ []) ∷ T.list [] ∷ T.list (T.int 1 ∷ T.int 2 ∷ T.int 3 ∷ []) ∷ [])) ≡ came (V.list (V.int 3 ∷ V.int 2 ∷ V.int 1 ∷ []))

-- {same(1, 1), same(1, 2), same({a, []}, {a, []})}
abbrev pub functions_8 : Type 0
functions_8 = outcome_of records functions (T.tuple (T.call (codes "same") (T.int 1 ∷ T.int 1 ∷ []) ∷ T.call (codes "same") (T.int 1 ∷ T.int 2 ∷ []) ∷ T.call (codes "same") (T.tuple (T.atom (codes "a") ∷ T.list [] ∷ []) ∷ T.tuple (T.atom (codes "a") ∷ T.list [] ∷ []) ∷ []) ∷ [])) ≡ came (V.tuple (V.atom (codes "true") ∷ V.atom (codes "false") ∷ V.atom (codes "true") ∷ []))

-- {larger(1, 2), larger(2, 1), larger(a, 1)}
abbrev pub functions_9 : Type 0
functions_9 = outcome_of records functions (T.tuple (T.call (codes "larger") (T.int 1 ∷ T.int 2 ∷ []) ∷ T.call (codes "larger") (T.int 2 ∷ T.int 1 ∷ []) ∷ T.call (codes "larger") (T.atom (codes "a") ∷ T.int 1 ∷ []) ∷ [])) ≡ came (V.tuple (V.int 2 ∷ V.int 2 ∷ V.atom (codes "a") ∷ []))

-- {sort({}), sort(#{}), sort([])}
abbrev pub functions_10 : Type 0
functions_10 = outcome_of records functions (T.tuple (T.call (codes "sort") (T.tuple [] ∷ []) ∷ T.call (codes "sort") (T.map_new [] ∷ []) ∷ T.call (codes "sort") (T.list [] ∷ []) ∷ [])) ≡ came (V.tuple (V.atom (codes "sized") ∷ V.atom (codes "sized") ∷ V.atom (codes "other") ∷ []))

-- {arity(), arity(1), arity(1, 2)}
abbrev pub functions_11 : Type 0
functions_11 = outcome_of records functions (T.tuple (T.call (codes "arity") [] ∷ T.call (codes "arity") (T.int 1 ∷ []) ∷ T.call (codes "arity") (T.int 1 ∷ T.int 2 ∷ []) ∷ [])) ≡ came (V.tuple (V.atom (codes "none") ∷ V.atom (codes "one") ∷ V.atom (codes "two") ∷ []))

-- {is_function(fun arity/0, 0), is_function(fun arity/1, 0), is_function(fun arity/2, 2)}
abbrev pub functions_12 : Type 0
functions_12 = outcome_of records functions (T.tuple (T.call (codes "is_function") (T.fun_name (codes "arity") 0 ∷ T.int 0 ∷ []) ∷ T.call (codes "is_function") (T.fun_name (codes "arity") 1 ∷ T.int 0 ∷ []) ∷ T.call (codes "is_function") (T.fun_name (codes "arity") 2 ∷ T.int 2 ∷ []) ∷ [])) ≡ came (V.tuple (V.atom (codes "true") ∷ V.atom (codes "false") ∷ V.atom (codes "true") ∷ []))

-- swap(swap({1, 2}))
abbrev pub functions_13 : Type 0
functions_13 = outcome_of records functions (T.call (codes "swap") (T.call (codes "swap") (T.tuple (T.int 1 ∷ T.int 2 ∷ []) ∷ []) ∷ [])) ≡ came (V.tuple (V.int 1 ∷ V.int 2 ∷ []))

-- begin X = 1, Y = larger(X + 1, X), {X, Y} end
abbrev pub functions_14 : Type 0
functions_14 = outcome_of records functions (T.begin_of (T.match (P.var (codes "X")) (T.int 1) ∷ T.match (P.var (codes "Y")) (T.call (codes "larger") (T.binary B.Add (T.var (codes "X")) (T.int 1) ∷ T.var (codes "X") ∷ [])) ∷ T.value (T.tuple (T.var (codes "X") ∷ T.var (codes "Y") ∷ [])) ∷ [])) ≡ came (V.tuple (V.int 1 ∷ V.int 2 ∷ []))

-- map(fun(F) -> F(10) end, [fun(X) -> X + Y end || Y <- [1, 2]])
abbrev pub functions_15 : Type 0
functions_15 = outcome_of records functions (T.call (codes "map") (T.fun_of (T.clause (P.var (codes "F") ∷ []) (T.value (T.apply (T.var (codes "F")) (T.int 10 ∷ [])) ∷ []) ∷ []) ∷ T.comprehension (T.fun_of (T.clause (P.var (codes "X") ∷ []) (T.value (T.binary B.Add (T.var (codes "X")) (T.var (codes "Y"))) ∷ []) ∷ [])) (T.generator (P.var (codes "Y")) (T.list (T.int 1 ∷ T.int 2 ∷ [])) ∷ []) ∷ [])) ≡ came (V.list (V.int 11 ∷ V.int 12 ∷ []))

-- map(fun(X) -> map(fun(Y) -> X * Y end, [1, 2]) end, [3, 4])
abbrev pub functions_16 : Type 0
functions_16 = outcome_of records functions (T.call (codes "map") (T.fun_of (T.clause (P.var (codes "X") ∷ []) (T.value (T.call (codes "map") (T.fun_of (T.clause (P.var (codes "Y") ∷ []) (T.value (T.binary B.Mul (T.var (codes "X")) (T.var (codes "Y"))) ∷ []) ∷ []) ∷ T.list (T.int 1 ∷ T.int 2 ∷ []) ∷ [])) ∷ []) ∷ []) ∷ T.list (T.int 3 ∷ T.int 4 ∷ []) ∷ [])) ≡ came (V.list (V.list (V.int 3 ∷ V.int 6 ∷ []) ∷ V.list (V.int 4 ∷ V.int 8 ∷ []) ∷ []))

-- try map(fun(X) -> 6 div X end, [3, 0, 2]) catch error:E -> E end
abbrev pub functions_17 : Type 0
functions_17 = outcome_of records functions (T.try_of (T.value (T.call (codes "map") (T.fun_of (T.clause (P.var (codes "X") ∷ []) (T.value (T.binary B.Div (T.int 6) (T.var (codes "X"))) ∷ []) ∷ []) ∷ T.list (T.int 3 ∷ T.int 0 ∷ T.int 2 ∷ []) ∷ [])) ∷ []) [] (T.caught_as (P.atom (codes "error")) (T.clause (P.var (codes "E") ∷ []) (T.value (T.var (codes "E")) ∷ [])) ∷ [])) ≡ came (V.atom (codes "badarith"))

-- same(fun fact/1, fun fact/1)
abbrev pub functions_18 : Type 0
functions_18 = outcome_of records functions (T.call (codes "same") (T.fun_name (codes "fact") 1 ∷ T.fun_name (codes "fact") 1 ∷ [])) ≡ came (V.atom (codes "true"))

-- all of them
abbrev pub Functions : Type 0
Functions = functions_1 × functions_2 × functions_3 × functions_4 × functions_5 × functions_6 × functions_7 × functions_8 × functions_9 × functions_10 × functions_11 × functions_12 × functions_13 × functions_14 × functions_15 × functions_16 × functions_17 × functions_18
