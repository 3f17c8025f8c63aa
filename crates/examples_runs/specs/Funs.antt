-- Examples of runs: fun expressions and their calls. Written by expressions.escript.
use Rattle.std.specs.Prelude.{◌≡◌, List, [], ◌∷◌, codes}
use Rattle.erl_tree.specs.declared.form.Function.{Function}
use Rattle.erl_tree.specs.declared.form.RecDefKind.{RecDefKind}
use Rattle.erl_tree.specs.declared.expr.BinaryOp.TheVariants as B
use Rattle.erl_runs.specs.Value.{came, raised, throw}
use Rattle.examples_runs.specs.Trees as T
use Rattle.examples_runs.specs.Patterns as P
use Rattle.examples_runs.specs.Outcomes as V
use Rattle.examples_runs.specs.Outcomes.{outcome_of}

-- f(X) -> X * 2.
-- call(F, X) -> F(X).
-- adder(N) -> fun(M) -> N + M end.

abbrev pub records : List RecDefKind
records = []

abbrev pub functions : List Function
functions = T.function (codes "f") (T.clause (P.var (codes "X") ∷ []) (T.value (T.binary B.Mul (T.var (codes "X")) (T.int 2)) ∷ []) ∷ []) ∷ T.function (codes "call") (T.clause (P.var (codes "F") ∷ P.var (codes "X") ∷ []) (T.value (T.apply (T.var (codes "F")) (T.var (codes "X") ∷ [])) ∷ []) ∷ []) ∷ T.function (codes "adder") (T.clause (P.var (codes "N") ∷ []) (T.value (T.fun_of (T.clause (P.var (codes "M") ∷ []) (T.value (T.binary B.Add (T.var (codes "N")) (T.var (codes "M"))) ∷ []) ∷ [])) ∷ []) ∷ []) ∷ []

-- (fun() -> 1 end)()
abbrev pub funs_1 : Type 0
funs_1 = outcome_of records functions (T.apply (T.paren (T.fun_of (T.clause [] (T.value (T.int 1) ∷ []) ∷ []))) []) ≡ came (V.int 1)

-- (fun(X) -> X + 1 end)(2)
abbrev pub funs_2 : Type 0
funs_2 = outcome_of records functions (T.apply (T.paren (T.fun_of (T.clause (P.var (codes "X") ∷ []) (T.value (T.binary B.Add (T.var (codes "X")) (T.int 1)) ∷ []) ∷ []))) (T.int 2 ∷ [])) ≡ came (V.int 3)

-- (fun(X, Y) -> {Y, X} end)(1, 2)
abbrev pub funs_3 : Type 0
funs_3 = outcome_of records functions (T.apply (T.paren (T.fun_of (T.clause (P.var (codes "X") ∷ P.var (codes "Y") ∷ []) (T.value (T.tuple (T.var (codes "Y") ∷ T.var (codes "X") ∷ [])) ∷ []) ∷ []))) (T.int 1 ∷ T.int 2 ∷ [])) ≡ came (V.tuple (V.int 2 ∷ V.int 1 ∷ []))

-- begin F = fun(X) -> X + 1 end, F(F(1)) end
abbrev pub funs_4 : Type 0
funs_4 = outcome_of records functions (T.begin_of (T.match (P.var (codes "F")) (T.fun_of (T.clause (P.var (codes "X") ∷ []) (T.value (T.binary B.Add (T.var (codes "X")) (T.int 1)) ∷ []) ∷ [])) ∷ T.value (T.apply (T.var (codes "F")) (T.apply (T.var (codes "F")) (T.int 1 ∷ []) ∷ [])) ∷ [])) ≡ came (V.int 3)

-- begin F = fun(1) -> a; (2) -> b; (_) -> c end, {F(1), F(2), F(3)} end
abbrev pub funs_5 : Type 0
funs_5 = outcome_of records functions (T.begin_of (T.match (P.var (codes "F")) (T.fun_of (T.clause (P.int 1 ∷ []) (T.value (T.atom (codes "a")) ∷ []) ∷ T.clause (P.int 2 ∷ []) (T.value (T.atom (codes "b")) ∷ []) ∷ T.clause (P.var (codes "_") ∷ []) (T.value (T.atom (codes "c")) ∷ []) ∷ [])) ∷ T.value (T.tuple (T.apply (T.var (codes "F")) (T.int 1 ∷ []) ∷ T.apply (T.var (codes "F")) (T.int 2 ∷ []) ∷ T.apply (T.var (codes "F")) (T.int 3 ∷ []) ∷ [])) ∷ [])) ≡ came (V.tuple (V.atom (codes "a") ∷ V.atom (codes "b") ∷ V.atom (codes "c") ∷ []))

-- begin F = fun(X) when X > 1 -> big; (_) -> small end, {F(1), F(2)} end
abbrev pub funs_6 : Type 0
funs_6 = outcome_of records functions (T.begin_of (T.match (P.var (codes "F")) (T.fun_of (T.clause_when (P.var (codes "X") ∷ []) ((T.binary B.Gt (T.var (codes "X")) (T.int 1) ∷ []) ∷ []) (T.value (T.atom (codes "big")) ∷ []) ∷ T.clause (P.var (codes "_") ∷ []) (T.value (T.atom (codes "small")) ∷ []) ∷ [])) ∷ T.value (T.tuple (T.apply (T.var (codes "F")) (T.int 1 ∷ []) ∷ T.apply (T.var (codes "F")) (T.int 2 ∷ []) ∷ [])) ∷ [])) ≡ came (V.tuple (V.atom (codes "small") ∷ V.atom (codes "big") ∷ []))

-- begin F = fun(X, X) -> same; (_, _) -> other end, {F(1, 1), F(1, 2)} end
abbrev pub funs_7 : Type 0
funs_7 = outcome_of records functions (T.begin_of (T.match (P.var (codes "F")) (T.fun_of (T.clause (P.var (codes "X") ∷ P.var (codes "X") ∷ []) (T.value (T.atom (codes "same")) ∷ []) ∷ T.clause (P.var (codes "_") ∷ P.var (codes "_") ∷ []) (T.value (T.atom (codes "other")) ∷ []) ∷ [])) ∷ T.value (T.tuple (T.apply (T.var (codes "F")) (T.int 1 ∷ T.int 1 ∷ []) ∷ T.apply (T.var (codes "F")) (T.int 1 ∷ T.int 2 ∷ []) ∷ [])) ∷ [])) ≡ came (V.tuple (V.atom (codes "same") ∷ V.atom (codes "other") ∷ []))

-- begin F = fun({X, Y}) -> X + Y; ([X | _]) -> X end, {F({1, 2}), F([3])} end
abbrev pub funs_8 : Type 0
funs_8 = outcome_of records functions (T.begin_of (T.match (P.var (codes "F")) (T.fun_of (T.clause (P.tuple (P.var (codes "X") ∷ P.var (codes "Y") ∷ []) ∷ []) (T.value (T.binary B.Add (T.var (codes "X")) (T.var (codes "Y"))) ∷ []) ∷ T.clause (P.list_onto (P.var (codes "X") ∷ []) (P.var (codes "_")) ∷ []) (T.value (T.var (codes "X")) ∷ []) ∷ [])) ∷ T.value (T.tuple (T.apply (T.var (codes "F")) (T.tuple (T.int 1 ∷ T.int 2 ∷ []) ∷ []) ∷ T.apply (T.var (codes "F")) (T.list (T.int 3 ∷ []) ∷ []) ∷ [])) ∷ [])) ≡ came (V.tuple (V.int 3 ∷ V.int 3 ∷ []))

-- begin Y = 10, F = fun(X) -> X + Y end, F(1) end
abbrev pub funs_9 : Type 0
funs_9 = outcome_of records functions (T.begin_of (T.match (P.var (codes "Y")) (T.int 10) ∷ T.match (P.var (codes "F")) (T.fun_of (T.clause (P.var (codes "X") ∷ []) (T.value (T.binary B.Add (T.var (codes "X")) (T.var (codes "Y"))) ∷ []) ∷ [])) ∷ T.value (T.apply (T.var (codes "F")) (T.int 1 ∷ [])) ∷ [])) ≡ came (V.int 11)

-- begin Y = 1, F = fun() -> Z = Y + 1, Z * 2 end, {F(), F()} end
abbrev pub funs_10 : Type 0
funs_10 = outcome_of records functions (T.begin_of (T.match (P.var (codes "Y")) (T.int 1) ∷ T.match (P.var (codes "F")) (T.fun_of (T.clause [] (T.match (P.var (codes "Z")) (T.binary B.Add (T.var (codes "Y")) (T.int 1)) ∷ T.value (T.binary B.Mul (T.var (codes "Z")) (T.int 2)) ∷ []) ∷ [])) ∷ T.value (T.tuple (T.apply (T.var (codes "F")) [] ∷ T.apply (T.var (codes "F")) [] ∷ [])) ∷ [])) ≡ came (V.tuple (V.int 4 ∷ V.int 4 ∷ []))

-- begin X = 1, F = fun(X) -> X end, {F(2), X} end
abbrev pub funs_11 : Type 0
funs_11 = outcome_of records functions (T.begin_of (T.match (P.var (codes "X")) (T.int 1) ∷ T.match (P.var (codes "F")) (T.fun_of (T.clause (P.var (codes "X") ∷ []) (T.value (T.var (codes "X")) ∷ []) ∷ [])) ∷ T.value (T.tuple (T.apply (T.var (codes "F")) (T.int 2 ∷ []) ∷ T.var (codes "X") ∷ [])) ∷ [])) ≡ came (V.tuple (V.int 2 ∷ V.int 1 ∷ []))

-- begin X = 1, F = fun({X, Y}) -> X + Y end, F({10, 20}) end
abbrev pub funs_12 : Type 0
funs_12 = outcome_of records functions (T.begin_of (T.match (P.var (codes "X")) (T.int 1) ∷ T.match (P.var (codes "F")) (T.fun_of (T.clause (P.tuple (P.var (codes "X") ∷ P.var (codes "Y") ∷ []) ∷ []) (T.value (T.binary B.Add (T.var (codes "X")) (T.var (codes "Y"))) ∷ []) ∷ [])) ∷ T.value (T.apply (T.var (codes "F")) (T.tuple (T.int 10 ∷ T.int 20 ∷ []) ∷ [])) ∷ [])) ≡ came (V.int 30)

-- begin X = 1, F = fun(Y) -> case Y of X -> same; _ -> other end end, {F(1), F(2)} end
abbrev pub funs_13 : Type 0
funs_13 = outcome_of records functions (T.begin_of (T.match (P.var (codes "X")) (T.int 1) ∷ T.match (P.var (codes "F")) (T.fun_of (T.clause (P.var (codes "Y") ∷ []) (T.value (T.case_of (T.var (codes "Y")) (T.clause (P.var (codes "X") ∷ []) (T.value (T.atom (codes "same")) ∷ []) ∷ T.clause (P.var (codes "_") ∷ []) (T.value (T.atom (codes "other")) ∷ []) ∷ [])) ∷ []) ∷ [])) ∷ T.value (T.tuple (T.apply (T.var (codes "F")) (T.int 1 ∷ []) ∷ T.apply (T.var (codes "F")) (T.int 2 ∷ []) ∷ [])) ∷ [])) ≡ came (V.tuple (V.atom (codes "same") ∷ V.atom (codes "other") ∷ []))

-- begin X = 1, F = fun(Y) -> X = Y, ok end, F(1) end
abbrev pub funs_14 : Type 0
funs_14 = outcome_of records functions (T.begin_of (T.match (P.var (codes "X")) (T.int 1) ∷ T.match (P.var (codes "F")) (T.fun_of (T.clause (P.var (codes "Y") ∷ []) (T.match (P.var (codes "X")) (T.var (codes "Y")) ∷ T.value (T.atom (codes "ok")) ∷ []) ∷ [])) ∷ T.value (T.apply (T.var (codes "F")) (T.int 1 ∷ [])) ∷ [])) ≡ came (V.atom (codes "ok"))

-- begin X = 1, F = fun(Y) when Y > X -> more; (_) -> less end, {F(1), F(2)} end
abbrev pub funs_15 : Type 0
funs_15 = outcome_of records functions (T.begin_of (T.match (P.var (codes "X")) (T.int 1) ∷ T.match (P.var (codes "F")) (T.fun_of (T.clause_when (P.var (codes "Y") ∷ []) ((T.binary B.Gt (T.var (codes "Y")) (T.var (codes "X")) ∷ []) ∷ []) (T.value (T.atom (codes "more")) ∷ []) ∷ T.clause (P.var (codes "_") ∷ []) (T.value (T.atom (codes "less")) ∷ []) ∷ [])) ∷ T.value (T.tuple (T.apply (T.var (codes "F")) (T.int 1 ∷ []) ∷ T.apply (T.var (codes "F")) (T.int 2 ∷ []) ∷ [])) ∷ [])) ≡ came (V.tuple (V.atom (codes "less") ∷ V.atom (codes "more") ∷ []))

-- begin F = fun(X) -> fun(Y) -> X - Y end end, (F(5))(3) end
abbrev pub funs_16 : Type 0
funs_16 = outcome_of records functions (T.begin_of (T.match (P.var (codes "F")) (T.fun_of (T.clause (P.var (codes "X") ∷ []) (T.value (T.fun_of (T.clause (P.var (codes "Y") ∷ []) (T.value (T.binary B.Sub (T.var (codes "X")) (T.var (codes "Y"))) ∷ []) ∷ [])) ∷ []) ∷ [])) ∷ T.value (T.apply (T.paren (T.apply (T.var (codes "F")) (T.int 5 ∷ []))) (T.int 3 ∷ [])) ∷ [])) ≡ came (V.int 2)

-- begin F = fun(X) -> fun(X) -> X end end, (F(5))(3) end
abbrev pub funs_17 : Type 0
funs_17 = outcome_of records functions (T.begin_of (T.match (P.var (codes "F")) (T.fun_of (T.clause (P.var (codes "X") ∷ []) (T.value (T.fun_of (T.clause (P.var (codes "X") ∷ []) (T.value (T.var (codes "X")) ∷ []) ∷ [])) ∷ []) ∷ [])) ∷ T.value (T.apply (T.paren (T.apply (T.var (codes "F")) (T.int 5 ∷ []))) (T.int 3 ∷ [])) ∷ [])) ≡ came (V.int 3)

-- begin F = fun(X) -> fun(Y) -> fun(Z) -> {X, Y, Z} end end end, ((F(1))(2))(3) end
abbrev pub funs_18 : Type 0
funs_18 = outcome_of records functions (T.begin_of (T.match (P.var (codes "F")) (T.fun_of (T.clause (P.var (codes "X") ∷ []) (T.value (T.fun_of (T.clause (P.var (codes "Y") ∷ []) (T.value (T.fun_of (T.clause (P.var (codes "Z") ∷ []) (T.value (T.tuple (T.var (codes "X") ∷ T.var (codes "Y") ∷ T.var (codes "Z") ∷ [])) ∷ []) ∷ [])) ∷ []) ∷ [])) ∷ []) ∷ [])) ∷ T.value (T.apply (T.paren (T.apply (T.paren (T.apply (T.var (codes "F")) (T.int 1 ∷ []))) (T.int 2 ∷ []))) (T.int 3 ∷ [])) ∷ [])) ≡ came (V.tuple (V.int 1 ∷ V.int 2 ∷ V.int 3 ∷ []))

-- begin A = adder(1), B = adder(10), {A(5), B(5)} end
abbrev pub funs_19 : Type 0
funs_19 = outcome_of records functions (T.begin_of (T.match (P.var (codes "A")) (T.call (codes "adder") (T.int 1 ∷ [])) ∷ T.match (P.var (codes "B")) (T.call (codes "adder") (T.int 10 ∷ [])) ∷ T.value (T.tuple (T.apply (T.var (codes "A")) (T.int 5 ∷ []) ∷ T.apply (T.var (codes "B")) (T.int 5 ∷ []) ∷ [])) ∷ [])) ≡ came (V.tuple (V.int 6 ∷ V.int 15 ∷ []))

-- begin F = fun f/1, F(4) end
abbrev pub funs_20 : Type 0
funs_20 = outcome_of records functions (T.begin_of (T.match (P.var (codes "F")) (T.fun_name (codes "f") 1) ∷ T.value (T.apply (T.var (codes "F")) (T.int 4 ∷ [])) ∷ [])) ≡ came (V.int 8)

-- (fun f/1)(5)
abbrev pub funs_21 : Type 0
funs_21 = outcome_of records functions (T.apply (T.paren (T.fun_name (codes "f") 1)) (T.int 5 ∷ [])) ≡ came (V.int 10)

-- call(fun f/1, 3)
abbrev pub funs_22 : Type 0
funs_22 = outcome_of records functions (T.call (codes "call") (T.fun_name (codes "f") 1 ∷ T.int 3 ∷ [])) ≡ came (V.int 6)

-- call(fun(X) -> {X} end, 3)
abbrev pub funs_23 : Type 0
funs_23 = outcome_of records functions (T.call (codes "call") (T.fun_of (T.clause (P.var (codes "X") ∷ []) (T.value (T.tuple (T.var (codes "X") ∷ [])) ∷ []) ∷ []) ∷ T.int 3 ∷ [])) ≡ came (V.tuple (V.int 3 ∷ []))

-- call(adder(3), 4)
abbrev pub funs_24 : Type 0
funs_24 = outcome_of records functions (T.call (codes "call") (T.call (codes "adder") (T.int 3 ∷ []) ∷ T.int 4 ∷ [])) ≡ came (V.int 7)

-- call(fun(F) -> F(1) end, fun(X) -> X + 1 end)
abbrev pub funs_25 : Type 0
funs_25 = outcome_of records functions (T.call (codes "call") (T.fun_of (T.clause (P.var (codes "F") ∷ []) (T.value (T.apply (T.var (codes "F")) (T.int 1 ∷ [])) ∷ []) ∷ []) ∷ T.fun_of (T.clause (P.var (codes "X") ∷ []) (T.value (T.binary B.Add (T.var (codes "X")) (T.int 1)) ∷ []) ∷ []) ∷ [])) ≡ came (V.int 2)

-- [F(2) || F <- [fun(X) -> X + Y end || Y <- [1, 2]] ++ [fun f/1]]
abbrev pub funs_26 : Type 0
funs_26 = outcome_of records functions (T.comprehension (T.apply (T.var (codes "F")) (T.int 2 ∷ [])) (T.generator (P.var (codes "F")) (T.binary B.Append (T.comprehension (T.fun_of (T.clause (P.var (codes "X") ∷ []) (T.value (T.binary B.Add (T.var (codes "X")) (T.var (codes "Y"))) ∷ []) ∷ [])) (T.generator (P.var (codes "Y")) (T.list (T.int 1 ∷ T.int 2 ∷ [])) ∷ [])) (T.list (T.fun_name (codes "f") 1 ∷ []))) ∷ [])) ≡ came (V.list (V.int 3 ∷ V.int 4 ∷ V.int 4 ∷ []))

-- begin {F, G} = {fun() -> a end, fun() -> b end}, {G(), F()} end
abbrev pub funs_27 : Type 0
funs_27 = outcome_of records functions (T.begin_of (T.match (P.tuple (P.var (codes "F") ∷ P.var (codes "G") ∷ [])) (T.tuple (T.fun_of (T.clause [] (T.value (T.atom (codes "a")) ∷ []) ∷ []) ∷ T.fun_of (T.clause [] (T.value (T.atom (codes "b")) ∷ []) ∷ []) ∷ [])) ∷ T.value (T.tuple (T.apply (T.var (codes "G")) [] ∷ T.apply (T.var (codes "F")) [] ∷ [])) ∷ [])) ≡ came (V.tuple (V.atom (codes "b") ∷ V.atom (codes "a") ∷ []))

-- begin #{k := F} = #{k => fun(X) -> [X] end}, F(1) end
abbrev pub funs_28 : Type 0
funs_28 = outcome_of records functions (T.begin_of (T.match (P.map (P.at_atom (codes "k") (P.var (codes "F")) ∷ [])) (T.map_new (T.sets (T.atom (codes "k")) (T.fun_of (T.clause (P.var (codes "X") ∷ []) (T.value (T.list (T.var (codes "X") ∷ [])) ∷ []) ∷ [])) ∷ [])) ∷ T.value (T.apply (T.var (codes "F")) (T.int 1 ∷ [])) ∷ [])) ≡ came (V.list (V.int 1 ∷ []))

-- (fun() -> throw(x) end)()
abbrev pub funs_29 : Type 0
funs_29 = outcome_of records functions (T.apply (T.paren (T.fun_of (T.clause [] (T.value (T.call (codes "throw") (T.atom (codes "x") ∷ [])) ∷ []) ∷ []))) []) ≡ raised throw (V.atom (codes "x"))

-- try (fun() -> throw(x) end)() catch X -> X end
abbrev pub funs_30 : Type 0
funs_30 = outcome_of records functions (T.try_of (T.value (T.apply (T.paren (T.fun_of (T.clause [] (T.value (T.call (codes "throw") (T.atom (codes "x") ∷ [])) ∷ []) ∷ []))) []) ∷ []) [] (T.caught (T.clause (P.var (codes "X") ∷ []) (T.value (T.var (codes "X")) ∷ [])) ∷ [])) ≡ came (V.atom (codes "x"))

-- begin F = try fun() -> throw(x) end catch _ -> c end, F() end
abbrev pub funs_31 : Type 0
funs_31 = outcome_of records functions (T.begin_of (T.match (P.var (codes "F")) (T.try_of (T.value (T.fun_of (T.clause [] (T.value (T.call (codes "throw") (T.atom (codes "x") ∷ [])) ∷ []) ∷ [])) ∷ []) [] (T.caught (T.clause (P.var (codes "_") ∷ []) (T.value (T.atom (codes "c")) ∷ [])) ∷ [])) ∷ T.value (T.apply (T.var (codes "F")) []) ∷ [])) ≡ raised throw (V.atom (codes "x"))

-- begin F = fun(_) -> a end, F(throw(x)) end
abbrev pub funs_32 : Type 0
funs_32 = outcome_of records functions (T.begin_of (T.match (P.var (codes "F")) (T.fun_of (T.clause (P.var (codes "_") ∷ []) (T.value (T.atom (codes "a")) ∷ []) ∷ [])) ∷ T.value (T.apply (T.var (codes "F")) (T.call (codes "throw") (T.atom (codes "x") ∷ []) ∷ [])) ∷ [])) ≡ raised throw (V.atom (codes "x"))

-- begin F = fun(F) -> F end, F(1) end
abbrev pub funs_33 : Type 0
funs_33 = outcome_of records functions (T.begin_of (T.match (P.var (codes "F")) (T.fun_of (T.clause (P.var (codes "F") ∷ []) (T.value (T.var (codes "F")) ∷ []) ∷ [])) ∷ T.value (T.apply (T.var (codes "F")) (T.int 1 ∷ [])) ∷ [])) ≡ came (V.int 1)

-- all of them
abbrev pub Funs : Type 0
Funs = funs_1 × funs_2 × funs_3 × funs_4 × funs_5 × funs_6 × funs_7 × funs_8 × funs_9 × funs_10 × funs_11 × funs_12 × funs_13 × funs_14 × funs_15 × funs_16 × funs_17 × funs_18 × funs_19 × funs_20 × funs_21 × funs_22 × funs_23 × funs_24 × funs_25 × funs_26 × funs_27 × funs_28 × funs_29 × funs_30 × funs_31 × funs_32 × funs_33
