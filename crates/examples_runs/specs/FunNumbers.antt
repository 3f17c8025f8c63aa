-- Examples of runs: fun expressions in each part of an expression. Written by expressions.escript.
use Rattle.std.specs.Prelude.{◌≡◌, List, [], ◌∷◌, codes}
use Rattle.erl_tree.specs.declared.form.Function.{Function}
use Rattle.erl_tree.specs.declared.form.RecDefKind.{RecDefKind}
use Rattle.erl_tree.specs.declared.expr.UnaryOp.TheVariants as U
use Rattle.erl_tree.specs.declared.expr.BinaryOp.TheVariants as B
use Rattle.erl_runs.specs.Value.{came, raised, throw}
use Rattle.examples_runs.specs.Trees as T
use Rattle.examples_runs.specs.Patterns as P
use Rattle.examples_runs.specs.Outcomes as V
use Rattle.examples_runs.specs.Outcomes.{outcome_of}

-- -record(pair, {left, right}).
-- call(F) -> F(fun(X) -> {call, X} end).
-- twice(F) -> begin G = fun(X) -> F(F(X)) end, G end.

abbrev pub records : List RecDefKind
records = T.record_of (codes "pair") (T.declared (codes "left") ∷ T.declared (codes "right") ∷ []) ∷ []

abbrev pub functions : List Function
functions = T.function (codes "call") (T.clause (P.var (codes "F") ∷ []) (T.value (T.apply (T.var (codes "F")) (T.fun_of (T.clause (P.var (codes "X") ∷ []) (T.value (T.tuple (T.atom (codes "call") ∷ T.var (codes "X") ∷ [])) ∷ []) ∷ []) ∷ [])) ∷ []) ∷ []) ∷ T.function (codes "twice") (T.clause (P.var (codes "F") ∷ []) (T.value (T.begin_of (T.match (P.var (codes "G")) (T.fun_of (T.clause (P.var (codes "X") ∷ []) (T.value (T.apply (T.var (codes "F")) (T.apply (T.var (codes "F")) (T.var (codes "X") ∷ []) ∷ [])) ∷ []) ∷ [])) ∷ T.value (T.var (codes "G")) ∷ [])) ∷ []) ∷ []) ∷ []

-- begin T = {fun() -> 1 end, fun() -> 2 end, fun() -> 3 end}, {A, B, C} = T, [A(), B(), C()] end
abbrev pub fun_numbers_1 : Type 0
fun_numbers_1 = outcome_of records functions (T.begin_of (T.match (P.var (codes "T")) (T.tuple (T.fun_of (T.clause [] (T.value (T.int 1) ∷ []) ∷ []) ∷ T.fun_of (T.clause [] (T.value (T.int 2) ∷ []) ∷ []) ∷ T.fun_of (T.clause [] (T.value (T.int 3) ∷ []) ∷ []) ∷ [])) ∷ T.match (P.tuple (P.var (codes "A") ∷ P.var (codes "B") ∷ P.var (codes "C") ∷ [])) (T.var (codes "T")) ∷ T.value (T.list (T.apply (T.var (codes "A")) [] ∷ T.apply (T.var (codes "B")) [] ∷ T.apply (T.var (codes "C")) [] ∷ [])) ∷ [])) ≡ came (V.list (V.int 1 ∷ V.int 2 ∷ V.int 3 ∷ []))

-- begin [A, B | C] = [fun() -> 1 end, fun() -> 2 end | fun() -> 3 end], [A(), B(), C()] end
abbrev pub fun_numbers_2 : Type 0
fun_numbers_2 = outcome_of records functions (T.begin_of (T.match (P.list_onto (P.var (codes "A") ∷ P.var (codes "B") ∷ []) (P.var (codes "C"))) (T.list_onto (T.fun_of (T.clause [] (T.value (T.int 1) ∷ []) ∷ []) ∷ T.fun_of (T.clause [] (T.value (T.int 2) ∷ []) ∷ []) ∷ []) (T.fun_of (T.clause [] (T.value (T.int 3) ∷ []) ∷ []))) ∷ T.value (T.list (T.apply (T.var (codes "A")) [] ∷ T.apply (T.var (codes "B")) [] ∷ T.apply (T.var (codes "C")) [] ∷ [])) ∷ [])) ≡ came (V.list (V.int 1 ∷ V.int 2 ∷ V.int 3 ∷ []))

-- (fun() -> 1 end)() - (fun() -> 2 end)()
abbrev pub fun_numbers_3 : Type 0
fun_numbers_3 = outcome_of records functions (T.binary B.Sub (T.apply (T.paren (T.fun_of (T.clause [] (T.value (T.int 1) ∷ []) ∷ []))) []) (T.apply (T.paren (T.fun_of (T.clause [] (T.value (T.int 2) ∷ []) ∷ []))) [])) ≡ came (V.minus 1)

-- -((fun() -> 1 end)())
abbrev pub fun_numbers_4 : Type 0
fun_numbers_4 = outcome_of records functions (T.unary U.Minus (T.paren (T.apply (T.paren (T.fun_of (T.clause [] (T.value (T.int 1) ∷ []) ∷ []))) []))) ≡ came (V.minus 1)

-- (fun(F) -> F(1) end)(fun(X) -> {X} end)
abbrev pub fun_numbers_5 : Type 0
fun_numbers_5 = outcome_of records functions (T.apply (T.paren (T.fun_of (T.clause (P.var (codes "F") ∷ []) (T.value (T.apply (T.var (codes "F")) (T.int 1 ∷ [])) ∷ []) ∷ []))) (T.fun_of (T.clause (P.var (codes "X") ∷ []) (T.value (T.tuple (T.var (codes "X") ∷ [])) ∷ []) ∷ []) ∷ [])) ≡ came (V.tuple (V.int 1 ∷ []))

-- (hd([fun() -> 1 end, fun() -> 2 end]))()
abbrev pub fun_numbers_6 : Type 0
fun_numbers_6 = outcome_of records functions (T.apply (T.paren (T.call (codes "hd") (T.list (T.fun_of (T.clause [] (T.value (T.int 1) ∷ []) ∷ []) ∷ T.fun_of (T.clause [] (T.value (T.int 2) ∷ []) ∷ []) ∷ []) ∷ []))) []) ≡ came (V.int 1)

-- begin #{a := F, b := G} = #{a => fun() -> 1 end, b => fun() -> 2 end}, {F(), G()} end
abbrev pub fun_numbers_7 : Type 0
fun_numbers_7 = outcome_of records functions (T.begin_of (T.match (P.map (P.at_atom (codes "a") (P.var (codes "F")) ∷ P.at_atom (codes "b") (P.var (codes "G")) ∷ [])) (T.map_new (T.sets (T.atom (codes "a")) (T.fun_of (T.clause [] (T.value (T.int 1) ∷ []) ∷ [])) ∷ T.sets (T.atom (codes "b")) (T.fun_of (T.clause [] (T.value (T.int 2) ∷ []) ∷ [])) ∷ [])) ∷ T.value (T.tuple (T.apply (T.var (codes "F")) [] ∷ T.apply (T.var (codes "G")) [] ∷ [])) ∷ [])) ≡ came (V.tuple (V.int 1 ∷ V.int 2 ∷ []))

-- begin #{a := F, b := G} = #{a => fun() -> 1 end}#{b => fun() -> 2 end}, {F(), G()} end
abbrev pub fun_numbers_8 : Type 0
fun_numbers_8 = outcome_of records functions (T.begin_of (T.match (P.map (P.at_atom (codes "a") (P.var (codes "F")) ∷ P.at_atom (codes "b") (P.var (codes "G")) ∷ [])) (T.map_change (T.map_new (T.sets (T.atom (codes "a")) (T.fun_of (T.clause [] (T.value (T.int 1) ∷ []) ∷ [])) ∷ [])) (T.sets (T.atom (codes "b")) (T.fun_of (T.clause [] (T.value (T.int 2) ∷ []) ∷ [])) ∷ [])) ∷ T.value (T.tuple (T.apply (T.var (codes "F")) [] ∷ T.apply (T.var (codes "G")) [] ∷ [])) ∷ [])) ≡ came (V.tuple (V.int 1 ∷ V.int 2 ∷ []))

-- begin P = #pair{left = fun() -> 1 end, right = fun() -> 2 end}, {(P#pair.left)(), (P#pair.right)()} end
abbrev pub fun_numbers_9 : Type 0
fun_numbers_9 = outcome_of records functions (T.begin_of (T.match (P.var (codes "P")) (T.rec_new (codes "pair") (T.field (codes "left") (T.fun_of (T.clause [] (T.value (T.int 1) ∷ []) ∷ [])) ∷ T.field (codes "right") (T.fun_of (T.clause [] (T.value (T.int 2) ∷ []) ∷ [])) ∷ [])) ∷ T.value (T.tuple (T.apply (T.paren (T.rec_get (T.var (codes "P")) (codes "pair") (codes "left"))) [] ∷ T.apply (T.paren (T.rec_get (T.var (codes "P")) (codes "pair") (codes "right"))) [] ∷ [])) ∷ [])) ≡ came (V.tuple (V.int 1 ∷ V.int 2 ∷ []))

-- begin P = #pair{left = fun() -> 1 end}#pair{right = fun() -> 2 end}, {(P#pair.left)(), (P#pair.right)()} end
abbrev pub fun_numbers_10 : Type 0
fun_numbers_10 = outcome_of records functions (T.begin_of (T.match (P.var (codes "P")) (T.rec_change (T.rec_new (codes "pair") (T.field (codes "left") (T.fun_of (T.clause [] (T.value (T.int 1) ∷ []) ∷ [])) ∷ [])) (codes "pair") (T.field (codes "right") (T.fun_of (T.clause [] (T.value (T.int 2) ∷ []) ∷ [])) ∷ [])) ∷ T.value (T.tuple (T.apply (T.paren (T.rec_get (T.var (codes "P")) (codes "pair") (codes "left"))) [] ∷ T.apply (T.paren (T.rec_get (T.var (codes "P")) (codes "pair") (codes "right"))) [] ∷ [])) ∷ [])) ≡ came (V.tuple (V.int 1 ∷ V.int 2 ∷ []))

-- begin F = fun() -> 1 end, G = fun() -> 2 end, {F(), G()} end
abbrev pub fun_numbers_11 : Type 0
fun_numbers_11 = outcome_of records functions (T.begin_of (T.match (P.var (codes "F")) (T.fun_of (T.clause [] (T.value (T.int 1) ∷ []) ∷ [])) ∷ T.match (P.var (codes "G")) (T.fun_of (T.clause [] (T.value (T.int 2) ∷ []) ∷ [])) ∷ T.value (T.tuple (T.apply (T.var (codes "F")) [] ∷ T.apply (T.var (codes "G")) [] ∷ [])) ∷ [])) ≡ came (V.tuple (V.int 1 ∷ V.int 2 ∷ []))

-- begin F = case fun() -> 1 end of G -> {G, fun() -> 2 end} end, {A, B} = F, {A(), B()} end
abbrev pub fun_numbers_12 : Type 0
fun_numbers_12 = outcome_of records functions (T.begin_of (T.match (P.var (codes "F")) (T.case_of (T.fun_of (T.clause [] (T.value (T.int 1) ∷ []) ∷ [])) (T.clause (P.var (codes "G") ∷ []) (T.value (T.tuple (T.var (codes "G") ∷ T.fun_of (T.clause [] (T.value (T.int 2) ∷ []) ∷ []) ∷ [])) ∷ []) ∷ [])) ∷ T.match (P.tuple (P.var (codes "A") ∷ P.var (codes "B") ∷ [])) (T.var (codes "F")) ∷ T.value (T.tuple (T.apply (T.var (codes "A")) [] ∷ T.apply (T.var (codes "B")) [] ∷ [])) ∷ [])) ≡ came (V.tuple (V.int 1 ∷ V.int 2 ∷ []))

-- begin F = case 2 of 1 -> fun() -> 1 end; 2 -> fun() -> 2 end; _ -> fun() -> 3 end end, F() end
abbrev pub fun_numbers_13 : Type 0
fun_numbers_13 = outcome_of records functions (T.begin_of (T.match (P.var (codes "F")) (T.case_of (T.int 2) (T.clause (P.int 1 ∷ []) (T.value (T.fun_of (T.clause [] (T.value (T.int 1) ∷ []) ∷ [])) ∷ []) ∷ T.clause (P.int 2 ∷ []) (T.value (T.fun_of (T.clause [] (T.value (T.int 2) ∷ []) ∷ [])) ∷ []) ∷ T.clause (P.var (codes "_") ∷ []) (T.value (T.fun_of (T.clause [] (T.value (T.int 3) ∷ []) ∷ [])) ∷ []) ∷ [])) ∷ T.value (T.apply (T.var (codes "F")) []) ∷ [])) ≡ came (V.int 2)

-- begin F = if 1 > 2 -> fun() -> 1 end; true -> fun() -> 2 end end, F() end
abbrev pub fun_numbers_14 : Type 0
fun_numbers_14 = outcome_of records functions (T.begin_of (T.match (P.var (codes "F")) (T.if_of (T.clause_when [] ((T.binary B.Gt (T.int 1) (T.int 2) ∷ []) ∷ []) (T.value (T.fun_of (T.clause [] (T.value (T.int 1) ∷ []) ∷ [])) ∷ []) ∷ T.clause_when [] ((T.atom (codes "true") ∷ []) ∷ []) (T.value (T.fun_of (T.clause [] (T.value (T.int 2) ∷ []) ∷ [])) ∷ []) ∷ [])) ∷ T.value (T.apply (T.var (codes "F")) []) ∷ [])) ≡ came (V.int 2)

-- begin F = try fun() -> 1 end of G -> {G, fun() -> 2 end} catch _ -> fun() -> 3 end end, {A, B} = F, {A(), B()} end
abbrev pub fun_numbers_15 : Type 0
fun_numbers_15 = outcome_of records functions (T.begin_of (T.match (P.var (codes "F")) (T.try_of (T.value (T.fun_of (T.clause [] (T.value (T.int 1) ∷ []) ∷ [])) ∷ []) (T.clause (P.var (codes "G") ∷ []) (T.value (T.tuple (T.var (codes "G") ∷ T.fun_of (T.clause [] (T.value (T.int 2) ∷ []) ∷ []) ∷ [])) ∷ []) ∷ []) (T.caught (T.clause (P.var (codes "_") ∷ []) (T.value (T.fun_of (T.clause [] (T.value (T.int 3) ∷ []) ∷ [])) ∷ [])) ∷ [])) ∷ T.match (P.tuple (P.var (codes "A") ∷ P.var (codes "B") ∷ [])) (T.var (codes "F")) ∷ T.value (T.tuple (T.apply (T.var (codes "A")) [] ∷ T.apply (T.var (codes "B")) [] ∷ [])) ∷ [])) ≡ came (V.tuple (V.int 1 ∷ V.int 2 ∷ []))

-- begin F = try (fun() -> throw(1) end)() of _ -> fun() -> 2 end catch 2 -> fun() -> 3 end; _ -> fun() -> 4 end after (fun() -> 5 end)() end, F() end
abbrev pub fun_numbers_16 : Type 0
fun_numbers_16 = outcome_of records functions (T.begin_of (T.match (P.var (codes "F")) (T.try_after (T.value (T.apply (T.paren (T.fun_of (T.clause [] (T.value (T.call (codes "throw") (T.int 1 ∷ [])) ∷ []) ∷ []))) []) ∷ []) (T.clause (P.var (codes "_") ∷ []) (T.value (T.fun_of (T.clause [] (T.value (T.int 2) ∷ []) ∷ [])) ∷ []) ∷ []) (T.caught (T.clause (P.int 2 ∷ []) (T.value (T.fun_of (T.clause [] (T.value (T.int 3) ∷ []) ∷ [])) ∷ [])) ∷ T.caught (T.clause (P.var (codes "_") ∷ []) (T.value (T.fun_of (T.clause [] (T.value (T.int 4) ∷ []) ∷ [])) ∷ [])) ∷ []) (T.value (T.apply (T.paren (T.fun_of (T.clause [] (T.value (T.int 5) ∷ []) ∷ []))) []) ∷ [])) ∷ T.value (T.apply (T.var (codes "F")) []) ∷ [])) ≡ came (V.int 4)

-- try (fun() -> 1 end)() of _ -> (fun() -> 2 end)() catch _ -> (fun() -> 3 end)() after (fun() -> throw(4) end)() end
abbrev pub fun_numbers_17 : Type 0
fun_numbers_17 = outcome_of records functions (T.try_after (T.value (T.apply (T.paren (T.fun_of (T.clause [] (T.value (T.int 1) ∷ []) ∷ []))) []) ∷ []) (T.clause (P.var (codes "_") ∷ []) (T.value (T.apply (T.paren (T.fun_of (T.clause [] (T.value (T.int 2) ∷ []) ∷ []))) []) ∷ []) ∷ []) (T.caught (T.clause (P.var (codes "_") ∷ []) (T.value (T.apply (T.paren (T.fun_of (T.clause [] (T.value (T.int 3) ∷ []) ∷ []))) []) ∷ [])) ∷ []) (T.value (T.apply (T.paren (T.fun_of (T.clause [] (T.value (T.call (codes "throw") (T.int 4 ∷ [])) ∷ []) ∷ []))) []) ∷ [])) ≡ raised throw (V.int 4)

-- [(fun(Y) -> {Y, X} end)(a) || X <- (fun() -> [1, 2] end)(), (fun(Z) -> Z > 1 end)(X)]
abbrev pub fun_numbers_18 : Type 0
fun_numbers_18 = outcome_of records functions (T.comprehension (T.apply (T.paren (T.fun_of (T.clause (P.var (codes "Y") ∷ []) (T.value (T.tuple (T.var (codes "Y") ∷ T.var (codes "X") ∷ [])) ∷ []) ∷ []))) (T.atom (codes "a") ∷ [])) (T.generator (P.var (codes "X")) (T.apply (T.paren (T.fun_of (T.clause [] (T.value (T.list (T.int 1 ∷ T.int 2 ∷ [])) ∷ []) ∷ []))) []) ∷ T.filter (T.apply (T.paren (T.fun_of (T.clause (P.var (codes "Z") ∷ []) (T.value (T.binary B.Gt (T.var (codes "Z")) (T.int 1)) ∷ []) ∷ []))) (T.var (codes "X") ∷ [])) ∷ [])) ≡ came (V.list (V.tuple (V.atom (codes "a") ∷ V.int 2 ∷ []) ∷ []))

-- begin F = fun() -> {fun() -> 1 end, fun() -> {2, fun() -> 3 end} end} end, {A, B} = F(), {C, D} = B(), {A(), C, D()} end
abbrev pub fun_numbers_19 : Type 0
fun_numbers_19 = outcome_of records functions (T.begin_of (T.match (P.var (codes "F")) (T.fun_of (T.clause [] (T.value (T.tuple (T.fun_of (T.clause [] (T.value (T.int 1) ∷ []) ∷ []) ∷ T.fun_of (T.clause [] (T.value (T.tuple (T.int 2 ∷ T.fun_of (T.clause [] (T.value (T.int 3) ∷ []) ∷ []) ∷ [])) ∷ []) ∷ []) ∷ [])) ∷ []) ∷ [])) ∷ T.match (P.tuple (P.var (codes "A") ∷ P.var (codes "B") ∷ [])) (T.apply (T.var (codes "F")) []) ∷ T.match (P.tuple (P.var (codes "C") ∷ P.var (codes "D") ∷ [])) (T.apply (T.var (codes "B")) []) ∷ T.value (T.tuple (T.apply (T.var (codes "A")) [] ∷ T.var (codes "C") ∷ T.apply (T.var (codes "D")) [] ∷ [])) ∷ [])) ≡ came (V.tuple (V.int 1 ∷ V.int 2 ∷ V.int 3 ∷ []))

-- begin F = fun(1) -> fun() -> 1 end; (2) -> fun() -> 2 end end, G = fun() -> 3 end, {(F(1))(), (F(2))(), G()} end
abbrev pub fun_numbers_20 : Type 0
fun_numbers_20 = outcome_of records functions (T.begin_of (T.match (P.var (codes "F")) (T.fun_of (T.clause (P.int 1 ∷ []) (T.value (T.fun_of (T.clause [] (T.value (T.int 1) ∷ []) ∷ [])) ∷ []) ∷ T.clause (P.int 2 ∷ []) (T.value (T.fun_of (T.clause [] (T.value (T.int 2) ∷ []) ∷ [])) ∷ []) ∷ [])) ∷ T.match (P.var (codes "G")) (T.fun_of (T.clause [] (T.value (T.int 3) ∷ []) ∷ [])) ∷ T.value (T.tuple (T.apply (T.paren (T.apply (T.var (codes "F")) (T.int 1 ∷ []))) [] ∷ T.apply (T.paren (T.apply (T.var (codes "F")) (T.int 2 ∷ []))) [] ∷ T.apply (T.var (codes "G")) [] ∷ [])) ∷ [])) ≡ came (V.tuple (V.int 1 ∷ V.int 2 ∷ V.int 3 ∷ []))

-- call(fun(F) -> F(1) end)
abbrev pub fun_numbers_21 : Type 0
fun_numbers_21 = outcome_of records functions (T.call (codes "call") (T.fun_of (T.clause (P.var (codes "F") ∷ []) (T.value (T.apply (T.var (codes "F")) (T.int 1 ∷ [])) ∷ []) ∷ []) ∷ [])) ≡ came (V.tuple (V.atom (codes "call") ∷ V.int 1 ∷ []))

-- (twice(fun(X) -> X * 3 end))(2)
abbrev pub fun_numbers_22 : Type 0
fun_numbers_22 = outcome_of records functions (T.apply (T.paren (T.call (codes "twice") (T.fun_of (T.clause (P.var (codes "X") ∷ []) (T.value (T.binary B.Mul (T.var (codes "X")) (T.int 3)) ∷ []) ∷ []) ∷ []))) (T.int 2 ∷ [])) ≡ came (V.int 18)

-- {(fun() -> 1 end)(), call(fun(F) -> {F(2), (fun() -> 3 end)()} end), (twice(fun(X) -> [X] end))(4)}
abbrev pub fun_numbers_23 : Type 0
fun_numbers_23 = outcome_of records functions (T.tuple (T.apply (T.paren (T.fun_of (T.clause [] (T.value (T.int 1) ∷ []) ∷ []))) [] ∷ T.call (codes "call") (T.fun_of (T.clause (P.var (codes "F") ∷ []) (T.value (T.tuple (T.apply (T.var (codes "F")) (T.int 2 ∷ []) ∷ T.apply (T.paren (T.fun_of (T.clause [] (T.value (T.int 3) ∷ []) ∷ []))) [] ∷ [])) ∷ []) ∷ []) ∷ []) ∷ T.apply (T.paren (T.call (codes "twice") (T.fun_of (T.clause (P.var (codes "X") ∷ []) (T.value (T.list (T.var (codes "X") ∷ [])) ∷ []) ∷ []) ∷ []))) (T.int 4 ∷ []) ∷ [])) ≡ came (V.tuple (V.int 1 ∷ V.tuple (V.tuple (V.atom (codes "call") ∷ V.int 2 ∷ []) ∷ V.int 3 ∷ []) ∷ V.list (V.list (V.int 4 ∷ []) ∷ []) ∷ []))

-- all of them
abbrev pub FunNumbers : Type 0
FunNumbers = fun_numbers_1 × fun_numbers_2 × fun_numbers_3 × fun_numbers_4 × fun_numbers_5 × fun_numbers_6 × fun_numbers_7 × fun_numbers_8 × fun_numbers_9 × fun_numbers_10 × fun_numbers_11 × fun_numbers_12 × fun_numbers_13 × fun_numbers_14 × fun_numbers_15 × fun_numbers_16 × fun_numbers_17 × fun_numbers_18 × fun_numbers_19 × fun_numbers_20 × fun_numbers_21 × fun_numbers_22 × fun_numbers_23
