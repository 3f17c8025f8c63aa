-- Examples of runs: which binding a variable has. Written by expressions.escript.
use Rattle.std.specs.Prelude.{◌≡◌, List, [], ◌∷◌, codes}
use Rattle.erl_tree.specs.declared.form.Function.{Function}
use Rattle.erl_tree.specs.declared.form.RecDefKind.{RecDefKind}
use Rattle.erl_tree.specs.declared.expr.BinaryOp.TheVariants as B
use Rattle.erl_runs.specs.Value.{came}
use Rattle.examples_runs.specs.Trees as T
use Rattle.examples_runs.specs.Patterns as P
use Rattle.examples_runs.specs.Outcomes as V
use Rattle.examples_runs.specs.Outcomes.{outcome_of}

-- f(X) -> Y = X + 1, Y.
-- g(X) -> X = 1, f(2).

abbrev pub records : List RecDefKind
records = []

abbrev pub functions : List Function
functions = T.function (codes "f") (T.clause (P.var (codes "X") ∷ []) (T.match (P.var (codes "Y")) (T.binary B.Add (T.var (codes "X")) (T.int 1)) ∷ T.value (T.var (codes "Y")) ∷ []) ∷ []) ∷ T.function (codes "g") (T.clause (P.var (codes "X") ∷ []) (T.match (P.var (codes "X")) (T.int 1) ∷ T.value (T.call (codes "f") (T.int 2 ∷ [])) ∷ []) ∷ []) ∷ []

-- begin X = 1, Y = f(5), {X, Y} end
abbrev pub scopes_1 : Type 0
scopes_1 = outcome_of records functions (T.begin_of (T.match (P.var (codes "X")) (T.int 1) ∷ T.match (P.var (codes "Y")) (T.call (codes "f") (T.int 5 ∷ [])) ∷ T.value (T.tuple (T.var (codes "X") ∷ T.var (codes "Y") ∷ [])) ∷ [])) ≡ came (V.tuple (V.int 1 ∷ V.int 6 ∷ []))

-- g(1)
abbrev pub scopes_2 : Type 0
scopes_2 = outcome_of records functions (T.call (codes "g") (T.int 1 ∷ [])) ≡ came (V.int 3)

-- begin X = 1, F = fun() -> Y = 2, X + Y end, Y = 5, {F(), Y} end
abbrev pub scopes_3 : Type 0
scopes_3 = outcome_of records functions (T.begin_of (T.match (P.var (codes "X")) (T.int 1) ∷ T.match (P.var (codes "F")) (T.fun_of (T.clause [] (T.match (P.var (codes "Y")) (T.int 2) ∷ T.value (T.binary B.Add (T.var (codes "X")) (T.var (codes "Y"))) ∷ []) ∷ [])) ∷ T.match (P.var (codes "Y")) (T.int 5) ∷ T.value (T.tuple (T.apply (T.var (codes "F")) [] ∷ T.var (codes "Y") ∷ [])) ∷ [])) ≡ came (V.tuple (V.int 3 ∷ V.int 5 ∷ []))

-- begin X = 1, F = fun(Y) -> X + Y end, G = fun(X) -> F(X) end, G(10) end
abbrev pub scopes_4 : Type 0
scopes_4 = outcome_of records functions (T.begin_of (T.match (P.var (codes "X")) (T.int 1) ∷ T.match (P.var (codes "F")) (T.fun_of (T.clause (P.var (codes "Y") ∷ []) (T.value (T.binary B.Add (T.var (codes "X")) (T.var (codes "Y"))) ∷ []) ∷ [])) ∷ T.match (P.var (codes "G")) (T.fun_of (T.clause (P.var (codes "X") ∷ []) (T.value (T.apply (T.var (codes "F")) (T.var (codes "X") ∷ [])) ∷ []) ∷ [])) ∷ T.value (T.apply (T.var (codes "G")) (T.int 10 ∷ [])) ∷ [])) ≡ came (V.int 11)

-- begin X = 1, Y = begin Z = 2, Z + X end, {X, Y} end
abbrev pub scopes_5 : Type 0
scopes_5 = outcome_of records functions (T.begin_of (T.match (P.var (codes "X")) (T.int 1) ∷ T.match (P.var (codes "Y")) (T.begin_of (T.match (P.var (codes "Z")) (T.int 2) ∷ T.value (T.binary B.Add (T.var (codes "Z")) (T.var (codes "X"))) ∷ [])) ∷ T.value (T.tuple (T.var (codes "X") ∷ T.var (codes "Y") ∷ [])) ∷ [])) ≡ came (V.tuple (V.int 1 ∷ V.int 3 ∷ []))

-- begin X = 1, case 2 of Y -> {X, Y} end end
abbrev pub scopes_6 : Type 0
scopes_6 = outcome_of records functions (T.begin_of (T.match (P.var (codes "X")) (T.int 1) ∷ T.value (T.case_of (T.int 2) (T.clause (P.var (codes "Y") ∷ []) (T.value (T.tuple (T.var (codes "X") ∷ T.var (codes "Y") ∷ [])) ∷ []) ∷ [])) ∷ [])) ≡ came (V.tuple (V.int 1 ∷ V.int 2 ∷ []))

-- begin X = 1, L = [X + Y || Y <- [1, 2]], Y = 7, {L, Y} end
abbrev pub scopes_7 : Type 0
scopes_7 = outcome_of records functions (T.begin_of (T.match (P.var (codes "X")) (T.int 1) ∷ T.match (P.var (codes "L")) (T.comprehension (T.binary B.Add (T.var (codes "X")) (T.var (codes "Y"))) (T.generator (P.var (codes "Y")) (T.list (T.int 1 ∷ T.int 2 ∷ [])) ∷ [])) ∷ T.match (P.var (codes "Y")) (T.int 7) ∷ T.value (T.tuple (T.var (codes "L") ∷ T.var (codes "Y") ∷ [])) ∷ [])) ≡ came (V.tuple (V.list (V.int 2 ∷ V.int 3 ∷ []) ∷ V.int 7 ∷ []))

-- begin F = fun(X) -> Y = X, Y end, {F(1), F(2)} end
abbrev pub scopes_8 : Type 0
scopes_8 = outcome_of records functions (T.begin_of (T.match (P.var (codes "F")) (T.fun_of (T.clause (P.var (codes "X") ∷ []) (T.match (P.var (codes "Y")) (T.var (codes "X")) ∷ T.value (T.var (codes "Y")) ∷ []) ∷ [])) ∷ T.value (T.tuple (T.apply (T.var (codes "F")) (T.int 1 ∷ []) ∷ T.apply (T.var (codes "F")) (T.int 2 ∷ []) ∷ [])) ∷ [])) ≡ came (V.tuple (V.int 1 ∷ V.int 2 ∷ []))

-- begin X = 1, F = fun(X) -> fun() -> X end end, {(F(2))(), X} end
abbrev pub scopes_9 : Type 0
scopes_9 = outcome_of records functions (T.begin_of (T.match (P.var (codes "X")) (T.int 1) ∷ T.match (P.var (codes "F")) (T.fun_of (T.clause (P.var (codes "X") ∷ []) (T.value (T.fun_of (T.clause [] (T.value (T.var (codes "X")) ∷ []) ∷ [])) ∷ []) ∷ [])) ∷ T.value (T.tuple (T.apply (T.paren (T.apply (T.var (codes "F")) (T.int 2 ∷ []))) [] ∷ T.var (codes "X") ∷ [])) ∷ [])) ≡ came (V.tuple (V.int 2 ∷ V.int 1 ∷ []))

-- begin X = 1, [F() || F <- [fun() -> X end, fun() -> X + 1 end]] end
abbrev pub scopes_10 : Type 0
scopes_10 = outcome_of records functions (T.begin_of (T.match (P.var (codes "X")) (T.int 1) ∷ T.value (T.comprehension (T.apply (T.var (codes "F")) []) (T.generator (P.var (codes "F")) (T.list (T.fun_of (T.clause [] (T.value (T.var (codes "X")) ∷ []) ∷ []) ∷ T.fun_of (T.clause [] (T.value (T.binary B.Add (T.var (codes "X")) (T.int 1)) ∷ []) ∷ []) ∷ [])) ∷ [])) ∷ [])) ≡ came (V.list (V.int 1 ∷ V.int 2 ∷ []))

-- begin X = 1, [(fun(X) -> X * 10 end)(X) || X <- [X, 2]] end
abbrev pub scopes_11 : Type 0
scopes_11 = outcome_of records functions (T.begin_of (T.match (P.var (codes "X")) (T.int 1) ∷ T.value (T.comprehension (T.apply (T.paren (T.fun_of (T.clause (P.var (codes "X") ∷ []) (T.value (T.binary B.Mul (T.var (codes "X")) (T.int 10)) ∷ []) ∷ []))) (T.var (codes "X") ∷ [])) (T.generator (P.var (codes "X")) (T.list (T.var (codes "X") ∷ T.int 2 ∷ [])) ∷ [])) ∷ [])) ≡ came (V.list (V.int 10 ∷ V.int 20 ∷ []))

-- begin X = 1, try throw(2) catch Y -> {X, Y} end end
abbrev pub scopes_12 : Type 0
scopes_12 = outcome_of records functions (T.begin_of (T.match (P.var (codes "X")) (T.int 1) ∷ T.value (T.try_of (T.value (T.call (codes "throw") (T.int 2 ∷ [])) ∷ []) [] (T.caught (T.clause (P.var (codes "Y") ∷ []) (T.value (T.tuple (T.var (codes "X") ∷ T.var (codes "Y") ∷ [])) ∷ [])) ∷ [])) ∷ [])) ≡ came (V.tuple (V.int 1 ∷ V.int 2 ∷ []))

-- begin X = 1, try X of Y -> {X, Y} catch _ -> c end end
abbrev pub scopes_13 : Type 0
scopes_13 = outcome_of records functions (T.begin_of (T.match (P.var (codes "X")) (T.int 1) ∷ T.value (T.try_of (T.value (T.var (codes "X")) ∷ []) (T.clause (P.var (codes "Y") ∷ []) (T.value (T.tuple (T.var (codes "X") ∷ T.var (codes "Y") ∷ [])) ∷ []) ∷ []) (T.caught (T.clause (P.var (codes "_") ∷ []) (T.value (T.atom (codes "c")) ∷ [])) ∷ [])) ∷ [])) ≡ came (V.tuple (V.int 1 ∷ V.int 1 ∷ []))

-- begin X = 1, F = fun(_) -> X end, X = 1, F(3) end
abbrev pub scopes_14 : Type 0
scopes_14 = outcome_of records functions (T.begin_of (T.match (P.var (codes "X")) (T.int 1) ∷ T.match (P.var (codes "F")) (T.fun_of (T.clause (P.var (codes "_") ∷ []) (T.value (T.var (codes "X")) ∷ []) ∷ [])) ∷ T.match (P.var (codes "X")) (T.int 1) ∷ T.value (T.apply (T.var (codes "F")) (T.int 3 ∷ [])) ∷ [])) ≡ came (V.int 1)

-- begin {X, Y} = {1, 2}, F = fun({Y, X}) -> {X, Y} end, {F({3, 4}), X, Y} end
abbrev pub scopes_15 : Type 0
scopes_15 = outcome_of records functions (T.begin_of (T.match (P.tuple (P.var (codes "X") ∷ P.var (codes "Y") ∷ [])) (T.tuple (T.int 1 ∷ T.int 2 ∷ [])) ∷ T.match (P.var (codes "F")) (T.fun_of (T.clause (P.tuple (P.var (codes "Y") ∷ P.var (codes "X") ∷ []) ∷ []) (T.value (T.tuple (T.var (codes "X") ∷ T.var (codes "Y") ∷ [])) ∷ []) ∷ [])) ∷ T.value (T.tuple (T.apply (T.var (codes "F")) (T.tuple (T.int 3 ∷ T.int 4 ∷ []) ∷ []) ∷ T.var (codes "X") ∷ T.var (codes "Y") ∷ [])) ∷ [])) ≡ came (V.tuple (V.tuple (V.int 4 ∷ V.int 3 ∷ []) ∷ V.int 1 ∷ V.int 2 ∷ []))

-- case 1 of X when X == 1 -> F = fun(X) -> X + 1 end, F(X) end
abbrev pub scopes_16 : Type 0
scopes_16 = outcome_of records functions (T.case_of (T.int 1) (T.clause_when (P.var (codes "X") ∷ []) ((T.binary B.Eq (T.var (codes "X")) (T.int 1) ∷ []) ∷ []) (T.match (P.var (codes "F")) (T.fun_of (T.clause (P.var (codes "X") ∷ []) (T.value (T.binary B.Add (T.var (codes "X")) (T.int 1)) ∷ []) ∷ [])) ∷ T.value (T.apply (T.var (codes "F")) (T.var (codes "X") ∷ [])) ∷ []) ∷ [])) ≡ came (V.int 2)

-- all of them
abbrev pub Scopes : Type 0
Scopes = scopes_1 × scopes_2 × scopes_3 × scopes_4 × scopes_5 × scopes_6 × scopes_7 × scopes_8 × scopes_9 × scopes_10 × scopes_11 × scopes_12 × scopes_13 × scopes_14 × scopes_15 × scopes_16
