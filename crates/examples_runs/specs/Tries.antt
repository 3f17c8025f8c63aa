-- Examples of runs: try expressions. Written by expressions.escript.
use Rattle.std.specs.Prelude.{◌≡◌, List, [], ◌∷◌, codes}
use Rattle.erl_tree.specs.declared.form.Function.{Function}
use Rattle.erl_tree.specs.declared.form.RecDefKind.{RecDefKind}
use Rattle.erl_tree.specs.declared.expr.BinaryOp.TheVariants as B
use Rattle.erl_runs.specs.Value.{came, raised, error, exit, throw}
use Rattle.examples_runs.specs.Trees as T
use Rattle.examples_runs.specs.Patterns as P
use Rattle.examples_runs.specs.Outcomes as V
use Rattle.examples_runs.specs.Outcomes.{outcome_of}

-- f(0) -> throw(zero); f(X) -> X.

abbrev pub records : List RecDefKind
records = []

abbrev pub functions : List Function
functions = T.function (codes "f") (T.clause (P.int 0 ∷ []) (T.value (T.call (codes "throw") (T.atom (codes "zero") ∷ [])) ∷ []) ∷ T.clause (P.var (codes "X") ∷ []) (T.value (T.var (codes "X")) ∷ []) ∷ []) ∷ []

-- try 1 catch _ -> 2 end
abbrev pub tries_1 : Type 0
tries_1 = outcome_of records functions (T.try_of (T.value (T.int 1) ∷ []) [] (T.caught (T.clause (P.var (codes "_") ∷ []) (T.value (T.int 2) ∷ [])) ∷ [])) ≡ came (V.int 1)

-- try throw(1) catch X -> {caught, X} end
abbrev pub tries_2 : Type 0
tries_2 = outcome_of records functions (T.try_of (T.value (T.call (codes "throw") (T.int 1 ∷ [])) ∷ []) [] (T.caught (T.clause (P.var (codes "X") ∷ []) (T.value (T.tuple (T.atom (codes "caught") ∷ T.var (codes "X") ∷ [])) ∷ [])) ∷ [])) ≡ came (V.tuple (V.atom (codes "caught") ∷ V.int 1 ∷ []))

-- try throw(1) catch throw:X -> {caught, X} end
abbrev pub tries_3 : Type 0
tries_3 = outcome_of records functions (T.try_of (T.value (T.call (codes "throw") (T.int 1 ∷ [])) ∷ []) [] (T.caught_as (P.atom (codes "throw")) (T.clause (P.var (codes "X") ∷ []) (T.value (T.tuple (T.atom (codes "caught") ∷ T.var (codes "X") ∷ [])) ∷ [])) ∷ [])) ≡ came (V.tuple (V.atom (codes "caught") ∷ V.int 1 ∷ []))

-- try error(1) catch error:X -> {caught, X} end
abbrev pub tries_4 : Type 0
tries_4 = outcome_of records functions (T.try_of (T.value (T.call (codes "error") (T.int 1 ∷ [])) ∷ []) [] (T.caught_as (P.atom (codes "error")) (T.clause (P.var (codes "X") ∷ []) (T.value (T.tuple (T.atom (codes "caught") ∷ T.var (codes "X") ∷ [])) ∷ [])) ∷ [])) ≡ came (V.tuple (V.atom (codes "caught") ∷ V.int 1 ∷ []))

-- try exit(1) catch exit:X -> {caught, X} end
abbrev pub tries_5 : Type 0
tries_5 = outcome_of records functions (T.try_of (T.value (T.call (codes "exit") (T.int 1 ∷ [])) ∷ []) [] (T.caught_as (P.atom (codes "exit")) (T.clause (P.var (codes "X") ∷ []) (T.value (T.tuple (T.atom (codes "caught") ∷ T.var (codes "X") ∷ [])) ∷ [])) ∷ [])) ≡ came (V.tuple (V.atom (codes "caught") ∷ V.int 1 ∷ []))

-- try error(1) catch X -> {caught, X} end
abbrev pub tries_6 : Type 0
tries_6 = outcome_of records functions (T.try_of (T.value (T.call (codes "error") (T.int 1 ∷ [])) ∷ []) [] (T.caught (T.clause (P.var (codes "X") ∷ []) (T.value (T.tuple (T.atom (codes "caught") ∷ T.var (codes "X") ∷ [])) ∷ [])) ∷ [])) ≡ raised error (V.int 1)

-- try exit(1) catch throw:X -> {caught, X} end
abbrev pub tries_7 : Type 0
tries_7 = outcome_of records functions (T.try_of (T.value (T.call (codes "exit") (T.int 1 ∷ [])) ∷ []) [] (T.caught_as (P.atom (codes "throw")) (T.clause (P.var (codes "X") ∷ []) (T.value (T.tuple (T.atom (codes "caught") ∷ T.var (codes "X") ∷ [])) ∷ [])) ∷ [])) ≡ raised exit (V.int 1)

-- try throw(1) catch error:X -> X; exit:X -> X end
abbrev pub tries_8 : Type 0
tries_8 = outcome_of records functions (T.try_of (T.value (T.call (codes "throw") (T.int 1 ∷ [])) ∷ []) [] (T.caught_as (P.atom (codes "error")) (T.clause (P.var (codes "X") ∷ []) (T.value (T.var (codes "X")) ∷ [])) ∷ T.caught_as (P.atom (codes "exit")) (T.clause (P.var (codes "X") ∷ []) (T.value (T.var (codes "X")) ∷ [])) ∷ [])) ≡ raised throw (V.int 1)

-- try error(a) catch C:X -> {C, X} end
abbrev pub tries_9 : Type 0
tries_9 = outcome_of records functions (T.try_of (T.value (T.call (codes "error") (T.atom (codes "a") ∷ [])) ∷ []) [] (T.caught_as (P.var (codes "C")) (T.clause (P.var (codes "X") ∷ []) (T.value (T.tuple (T.var (codes "C") ∷ T.var (codes "X") ∷ [])) ∷ [])) ∷ [])) ≡ came (V.tuple (V.atom (codes "error") ∷ V.atom (codes "a") ∷ []))

-- try exit(a) catch C:X -> {C, X} end
abbrev pub tries_10 : Type 0
tries_10 = outcome_of records functions (T.try_of (T.value (T.call (codes "exit") (T.atom (codes "a") ∷ [])) ∷ []) [] (T.caught_as (P.var (codes "C")) (T.clause (P.var (codes "X") ∷ []) (T.value (T.tuple (T.var (codes "C") ∷ T.var (codes "X") ∷ [])) ∷ [])) ∷ [])) ≡ came (V.tuple (V.atom (codes "exit") ∷ V.atom (codes "a") ∷ []))

-- try throw(a) catch C:X -> {C, X} end
abbrev pub tries_11 : Type 0
tries_11 = outcome_of records functions (T.try_of (T.value (T.call (codes "throw") (T.atom (codes "a") ∷ [])) ∷ []) [] (T.caught_as (P.var (codes "C")) (T.clause (P.var (codes "X") ∷ []) (T.value (T.tuple (T.var (codes "C") ∷ T.var (codes "X") ∷ [])) ∷ [])) ∷ [])) ≡ came (V.tuple (V.atom (codes "throw") ∷ V.atom (codes "a") ∷ []))

-- try throw(a) catch _:_ -> b end
abbrev pub tries_12 : Type 0
tries_12 = outcome_of records functions (T.try_of (T.value (T.call (codes "throw") (T.atom (codes "a") ∷ [])) ∷ []) [] (T.caught_as (P.var (codes "_")) (T.clause (P.var (codes "_") ∷ []) (T.value (T.atom (codes "b")) ∷ [])) ∷ [])) ≡ came (V.atom (codes "b"))

-- try 1 div 0 catch error:badarith -> zero end
abbrev pub tries_13 : Type 0
tries_13 = outcome_of records functions (T.try_of (T.value (T.binary B.Div (T.int 1) (T.int 0)) ∷ []) [] (T.caught_as (P.atom (codes "error")) (T.clause (P.atom (codes "badarith") ∷ []) (T.value (T.atom (codes "zero")) ∷ [])) ∷ [])) ≡ came (V.atom (codes "zero"))

-- try #{}#{a := 1} catch error:R -> R end
abbrev pub tries_14 : Type 0
tries_14 = outcome_of records functions (T.try_of (T.value (T.map_change (T.map_new []) (T.replaces (T.atom (codes "a")) (T.int 1) ∷ [])) ∷ []) [] (T.caught_as (P.atom (codes "error")) (T.clause (P.var (codes "R") ∷ []) (T.value (T.var (codes "R")) ∷ [])) ∷ [])) ≡ came (V.tuple (V.atom (codes "badkey") ∷ V.atom (codes "a") ∷ []))

-- try throw(2) catch 1 -> one; 2 -> two; _ -> other end
abbrev pub tries_15 : Type 0
tries_15 = outcome_of records functions (T.try_of (T.value (T.call (codes "throw") (T.int 2 ∷ [])) ∷ []) [] (T.caught (T.clause (P.int 1 ∷ []) (T.value (T.atom (codes "one")) ∷ [])) ∷ T.caught (T.clause (P.int 2 ∷ []) (T.value (T.atom (codes "two")) ∷ [])) ∷ T.caught (T.clause (P.var (codes "_") ∷ []) (T.value (T.atom (codes "other")) ∷ [])) ∷ [])) ≡ came (V.atom (codes "two"))

-- try throw(2) catch X when X > 2 -> big; X when X > 1 -> middle end
abbrev pub tries_16 : Type 0
tries_16 = outcome_of records functions (T.try_of (T.value (T.call (codes "throw") (T.int 2 ∷ [])) ∷ []) [] (T.caught (T.clause_when (P.var (codes "X") ∷ []) ((T.binary B.Gt (T.var (codes "X")) (T.int 2) ∷ []) ∷ []) (T.value (T.atom (codes "big")) ∷ [])) ∷ T.caught (T.clause_when (P.var (codes "X") ∷ []) ((T.binary B.Gt (T.var (codes "X")) (T.int 1) ∷ []) ∷ []) (T.value (T.atom (codes "middle")) ∷ [])) ∷ [])) ≡ came (V.atom (codes "middle"))

-- try throw(0) catch X when X > 2 -> big; X when X > 1 -> middle end
abbrev pub tries_17 : Type 0
tries_17 = outcome_of records functions (T.try_of (T.value (T.call (codes "throw") (T.int 0 ∷ [])) ∷ []) [] (T.caught (T.clause_when (P.var (codes "X") ∷ []) ((T.binary B.Gt (T.var (codes "X")) (T.int 2) ∷ []) ∷ []) (T.value (T.atom (codes "big")) ∷ [])) ∷ T.caught (T.clause_when (P.var (codes "X") ∷ []) ((T.binary B.Gt (T.var (codes "X")) (T.int 1) ∷ []) ∷ []) (T.value (T.atom (codes "middle")) ∷ [])) ∷ [])) ≡ raised throw (V.int 0)

-- try throw({1, 1}) catch {X, X} -> same; {_, _} -> other end
abbrev pub tries_18 : Type 0
tries_18 = outcome_of records functions (T.try_of (T.value (T.call (codes "throw") (T.tuple (T.int 1 ∷ T.int 1 ∷ []) ∷ [])) ∷ []) [] (T.caught (T.clause (P.tuple (P.var (codes "X") ∷ P.var (codes "X") ∷ []) ∷ []) (T.value (T.atom (codes "same")) ∷ [])) ∷ T.caught (T.clause (P.tuple (P.var (codes "_") ∷ P.var (codes "_") ∷ []) ∷ []) (T.value (T.atom (codes "other")) ∷ [])) ∷ [])) ≡ came (V.atom (codes "same"))

-- begin E = 1, try throw(1) catch E -> same; _ -> other end end
abbrev pub tries_19 : Type 0
tries_19 = outcome_of records functions (T.begin_of (T.match (P.var (codes "E")) (T.int 1) ∷ T.value (T.try_of (T.value (T.call (codes "throw") (T.int 1 ∷ [])) ∷ []) [] (T.caught (T.clause (P.var (codes "E") ∷ []) (T.value (T.atom (codes "same")) ∷ [])) ∷ T.caught (T.clause (P.var (codes "_") ∷ []) (T.value (T.atom (codes "other")) ∷ [])) ∷ [])) ∷ [])) ≡ came (V.atom (codes "same"))

-- begin E = 1, try throw(2) catch E -> same; _ -> other end end
abbrev pub tries_20 : Type 0
tries_20 = outcome_of records functions (T.begin_of (T.match (P.var (codes "E")) (T.int 1) ∷ T.value (T.try_of (T.value (T.call (codes "throw") (T.int 2 ∷ [])) ∷ []) [] (T.caught (T.clause (P.var (codes "E") ∷ []) (T.value (T.atom (codes "same")) ∷ [])) ∷ T.caught (T.clause (P.var (codes "_") ∷ []) (T.value (T.atom (codes "other")) ∷ [])) ∷ [])) ∷ [])) ≡ came (V.atom (codes "other"))

-- begin C = exit, try throw(2) catch C:_ -> same; _:_ -> other end end
abbrev pub tries_21 : Type 0
tries_21 = outcome_of records functions (T.begin_of (T.match (P.var (codes "C")) (T.atom (codes "exit")) ∷ T.value (T.try_of (T.value (T.call (codes "throw") (T.int 2 ∷ [])) ∷ []) [] (T.caught_as (P.var (codes "C")) (T.clause (P.var (codes "_") ∷ []) (T.value (T.atom (codes "same")) ∷ [])) ∷ T.caught_as (P.var (codes "_")) (T.clause (P.var (codes "_") ∷ []) (T.value (T.atom (codes "other")) ∷ [])) ∷ [])) ∷ [])) ≡ came (V.atom (codes "other"))

-- try 1 of 1 -> a; 2 -> b catch _ -> c end
abbrev pub tries_22 : Type 0
tries_22 = outcome_of records functions (T.try_of (T.value (T.int 1) ∷ []) (T.clause (P.int 1 ∷ []) (T.value (T.atom (codes "a")) ∷ []) ∷ T.clause (P.int 2 ∷ []) (T.value (T.atom (codes "b")) ∷ []) ∷ []) (T.caught (T.clause (P.var (codes "_") ∷ []) (T.value (T.atom (codes "c")) ∷ [])) ∷ [])) ≡ came (V.atom (codes "a"))

-- try 2 of 1 -> a; X -> {b, X} catch _ -> c end
abbrev pub tries_23 : Type 0
tries_23 = outcome_of records functions (T.try_of (T.value (T.int 2) ∷ []) (T.clause (P.int 1 ∷ []) (T.value (T.atom (codes "a")) ∷ []) ∷ T.clause (P.var (codes "X") ∷ []) (T.value (T.tuple (T.atom (codes "b") ∷ T.var (codes "X") ∷ [])) ∷ []) ∷ []) (T.caught (T.clause (P.var (codes "_") ∷ []) (T.value (T.atom (codes "c")) ∷ [])) ∷ [])) ≡ came (V.tuple (V.atom (codes "b") ∷ V.int 2 ∷ []))

-- try 5 of X when X > 3 -> big; _ -> small catch _:_ -> c end
abbrev pub tries_24 : Type 0
tries_24 = outcome_of records functions (T.try_of (T.value (T.int 5) ∷ []) (T.clause_when (P.var (codes "X") ∷ []) ((T.binary B.Gt (T.var (codes "X")) (T.int 3) ∷ []) ∷ []) (T.value (T.atom (codes "big")) ∷ []) ∷ T.clause (P.var (codes "_") ∷ []) (T.value (T.atom (codes "small")) ∷ []) ∷ []) (T.caught_as (P.var (codes "_")) (T.clause (P.var (codes "_") ∷ []) (T.value (T.atom (codes "c")) ∷ [])) ∷ [])) ≡ came (V.atom (codes "big"))

-- try throw(1) of 1 -> a catch 1 -> c end
abbrev pub tries_25 : Type 0
tries_25 = outcome_of records functions (T.try_of (T.value (T.call (codes "throw") (T.int 1 ∷ [])) ∷ []) (T.clause (P.int 1 ∷ []) (T.value (T.atom (codes "a")) ∷ []) ∷ []) (T.caught (T.clause (P.int 1 ∷ []) (T.value (T.atom (codes "c")) ∷ [])) ∷ [])) ≡ came (V.atom (codes "c"))

-- try 1 of 1 -> throw(2) catch 2 -> c end
abbrev pub tries_26 : Type 0
tries_26 = outcome_of records functions (T.try_of (T.value (T.int 1) ∷ []) (T.clause (P.int 1 ∷ []) (T.value (T.call (codes "throw") (T.int 2 ∷ [])) ∷ []) ∷ []) (T.caught (T.clause (P.int 2 ∷ []) (T.value (T.atom (codes "c")) ∷ [])) ∷ [])) ≡ raised throw (V.int 2)

-- try 1 of X -> error(X) catch error:1 -> c end
abbrev pub tries_27 : Type 0
tries_27 = outcome_of records functions (T.try_of (T.value (T.int 1) ∷ []) (T.clause (P.var (codes "X") ∷ []) (T.value (T.call (codes "error") (T.var (codes "X") ∷ [])) ∷ []) ∷ []) (T.caught_as (P.atom (codes "error")) (T.clause (P.int 1 ∷ []) (T.value (T.atom (codes "c")) ∷ [])) ∷ [])) ≡ raised error (V.int 1)

-- try throw(1) catch 1 -> throw(2) end
abbrev pub tries_28 : Type 0
tries_28 = outcome_of records functions (T.try_of (T.value (T.call (codes "throw") (T.int 1 ∷ [])) ∷ []) [] (T.caught (T.clause (P.int 1 ∷ []) (T.value (T.call (codes "throw") (T.int 2 ∷ [])) ∷ [])) ∷ [])) ≡ raised throw (V.int 2)

-- try throw(1) catch 1 -> throw(2); 2 -> c end
abbrev pub tries_29 : Type 0
tries_29 = outcome_of records functions (T.try_of (T.value (T.call (codes "throw") (T.int 1 ∷ [])) ∷ []) [] (T.caught (T.clause (P.int 1 ∷ []) (T.value (T.call (codes "throw") (T.int 2 ∷ [])) ∷ [])) ∷ T.caught (T.clause (P.int 2 ∷ []) (T.value (T.atom (codes "c")) ∷ [])) ∷ [])) ≡ raised throw (V.int 2)

-- try 1 after 2 end
abbrev pub tries_30 : Type 0
tries_30 = outcome_of records functions (T.try_after (T.value (T.int 1) ∷ []) [] [] (T.value (T.int 2) ∷ [])) ≡ came (V.int 1)

-- try throw(1) after 2 end
abbrev pub tries_31 : Type 0
tries_31 = outcome_of records functions (T.try_after (T.value (T.call (codes "throw") (T.int 1 ∷ [])) ∷ []) [] [] (T.value (T.int 2) ∷ [])) ≡ raised throw (V.int 1)

-- try throw(1) catch 1 -> a after 2 end
abbrev pub tries_32 : Type 0
tries_32 = outcome_of records functions (T.try_after (T.value (T.call (codes "throw") (T.int 1 ∷ [])) ∷ []) [] (T.caught (T.clause (P.int 1 ∷ []) (T.value (T.atom (codes "a")) ∷ [])) ∷ []) (T.value (T.int 2) ∷ [])) ≡ came (V.atom (codes "a"))

-- try 1 after throw(2) end
abbrev pub tries_33 : Type 0
tries_33 = outcome_of records functions (T.try_after (T.value (T.int 1) ∷ []) [] [] (T.value (T.call (codes "throw") (T.int 2 ∷ [])) ∷ [])) ≡ raised throw (V.int 2)

-- try throw(1) after throw(2) end
abbrev pub tries_34 : Type 0
tries_34 = outcome_of records functions (T.try_after (T.value (T.call (codes "throw") (T.int 1 ∷ [])) ∷ []) [] [] (T.value (T.call (codes "throw") (T.int 2 ∷ [])) ∷ [])) ≡ raised throw (V.int 2)

-- try throw(1) catch 1 -> error(2) after exit(3) end
abbrev pub tries_35 : Type 0
tries_35 = outcome_of records functions (T.try_after (T.value (T.call (codes "throw") (T.int 1 ∷ [])) ∷ []) [] (T.caught (T.clause (P.int 1 ∷ []) (T.value (T.call (codes "error") (T.int 2 ∷ [])) ∷ [])) ∷ []) (T.value (T.call (codes "exit") (T.int 3 ∷ [])) ∷ [])) ≡ raised exit (V.int 3)

-- try error(1) catch throw:_ -> a after 3 end
abbrev pub tries_36 : Type 0
tries_36 = outcome_of records functions (T.try_after (T.value (T.call (codes "error") (T.int 1 ∷ [])) ∷ []) [] (T.caught_as (P.atom (codes "throw")) (T.clause (P.var (codes "_") ∷ []) (T.value (T.atom (codes "a")) ∷ [])) ∷ []) (T.value (T.int 3) ∷ [])) ≡ raised error (V.int 1)

-- try 1 of 1 -> a catch _ -> b after 2 end
abbrev pub tries_37 : Type 0
tries_37 = outcome_of records functions (T.try_after (T.value (T.int 1) ∷ []) (T.clause (P.int 1 ∷ []) (T.value (T.atom (codes "a")) ∷ []) ∷ []) (T.caught (T.clause (P.var (codes "_") ∷ []) (T.value (T.atom (codes "b")) ∷ [])) ∷ []) (T.value (T.int 2) ∷ [])) ≡ came (V.atom (codes "a"))

-- try 1 of 1 -> throw(a) catch _ -> b after 2 end
abbrev pub tries_38 : Type 0
tries_38 = outcome_of records functions (T.try_after (T.value (T.int 1) ∷ []) (T.clause (P.int 1 ∷ []) (T.value (T.call (codes "throw") (T.atom (codes "a") ∷ [])) ∷ []) ∷ []) (T.caught (T.clause (P.var (codes "_") ∷ []) (T.value (T.atom (codes "b")) ∷ [])) ∷ []) (T.value (T.int 2) ∷ [])) ≡ raised throw (V.atom (codes "a"))

-- try 1 of 1 -> throw(a) catch _ -> b after error(2) end
abbrev pub tries_39 : Type 0
tries_39 = outcome_of records functions (T.try_after (T.value (T.int 1) ∷ []) (T.clause (P.int 1 ∷ []) (T.value (T.call (codes "throw") (T.atom (codes "a") ∷ [])) ∷ []) ∷ []) (T.caught (T.clause (P.var (codes "_") ∷ []) (T.value (T.atom (codes "b")) ∷ [])) ∷ []) (T.value (T.call (codes "error") (T.int 2 ∷ [])) ∷ [])) ≡ raised error (V.int 2)

-- try try throw(1) catch 2 -> a end catch 1 -> b end
abbrev pub tries_40 : Type 0
tries_40 = outcome_of records functions (T.try_of (T.value (T.try_of (T.value (T.call (codes "throw") (T.int 1 ∷ [])) ∷ []) [] (T.caught (T.clause (P.int 2 ∷ []) (T.value (T.atom (codes "a")) ∷ [])) ∷ [])) ∷ []) [] (T.caught (T.clause (P.int 1 ∷ []) (T.value (T.atom (codes "b")) ∷ [])) ∷ [])) ≡ came (V.atom (codes "b"))

-- try try throw(1) after throw(2) end catch X -> X end
abbrev pub tries_41 : Type 0
tries_41 = outcome_of records functions (T.try_of (T.value (T.try_after (T.value (T.call (codes "throw") (T.int 1 ∷ [])) ∷ []) [] [] (T.value (T.call (codes "throw") (T.int 2 ∷ [])) ∷ [])) ∷ []) [] (T.caught (T.clause (P.var (codes "X") ∷ []) (T.value (T.var (codes "X")) ∷ [])) ∷ [])) ≡ came (V.int 2)

-- try try error(1) catch error:X -> throw({X}) end catch {Y} -> Y end
abbrev pub tries_42 : Type 0
tries_42 = outcome_of records functions (T.try_of (T.value (T.try_of (T.value (T.call (codes "error") (T.int 1 ∷ [])) ∷ []) [] (T.caught_as (P.atom (codes "error")) (T.clause (P.var (codes "X") ∷ []) (T.value (T.call (codes "throw") (T.tuple (T.var (codes "X") ∷ []) ∷ [])) ∷ [])) ∷ [])) ∷ []) [] (T.caught (T.clause (P.tuple (P.var (codes "Y") ∷ []) ∷ []) (T.value (T.var (codes "Y")) ∷ [])) ∷ [])) ≡ came (V.int 1)

-- try try throw(1) catch X -> X end of Y -> Y + 1 catch _ -> c end
abbrev pub tries_43 : Type 0
tries_43 = outcome_of records functions (T.try_of (T.value (T.try_of (T.value (T.call (codes "throw") (T.int 1 ∷ [])) ∷ []) [] (T.caught (T.clause (P.var (codes "X") ∷ []) (T.value (T.var (codes "X")) ∷ [])) ∷ [])) ∷ []) (T.clause (P.var (codes "Y") ∷ []) (T.value (T.binary B.Add (T.var (codes "Y")) (T.int 1)) ∷ []) ∷ []) (T.caught (T.clause (P.var (codes "_") ∷ []) (T.value (T.atom (codes "c")) ∷ [])) ∷ [])) ≡ came (V.int 2)

-- try X = 1, Y = X + 1, throw({X, Y}) catch {A, B} -> A - B end
abbrev pub tries_44 : Type 0
tries_44 = outcome_of records functions (T.try_of (T.match (P.var (codes "X")) (T.int 1) ∷ T.match (P.var (codes "Y")) (T.binary B.Add (T.var (codes "X")) (T.int 1)) ∷ T.value (T.call (codes "throw") (T.tuple (T.var (codes "X") ∷ T.var (codes "Y") ∷ []) ∷ [])) ∷ []) [] (T.caught (T.clause (P.tuple (P.var (codes "A") ∷ P.var (codes "B") ∷ []) ∷ []) (T.value (T.binary B.Sub (T.var (codes "A")) (T.var (codes "B"))) ∷ [])) ∷ [])) ≡ came (V.minus 1)

-- try f(0) + f(1) catch zero -> 0 end
abbrev pub tries_45 : Type 0
tries_45 = outcome_of records functions (T.try_of (T.value (T.binary B.Add (T.call (codes "f") (T.int 0 ∷ [])) (T.call (codes "f") (T.int 1 ∷ []))) ∷ []) [] (T.caught (T.clause (P.atom (codes "zero") ∷ []) (T.value (T.int 0) ∷ [])) ∷ [])) ≡ came (V.int 0)

-- try f(1) + f(2) catch zero -> 0 end
abbrev pub tries_46 : Type 0
tries_46 = outcome_of records functions (T.try_of (T.value (T.binary B.Add (T.call (codes "f") (T.int 1 ∷ [])) (T.call (codes "f") (T.int 2 ∷ []))) ∷ []) [] (T.caught (T.clause (P.atom (codes "zero") ∷ []) (T.value (T.int 0) ∷ [])) ∷ [])) ≡ came (V.int 3)

-- try {f(1), f(0), error(late)} catch C:R -> {C, R} end
abbrev pub tries_47 : Type 0
tries_47 = outcome_of records functions (T.try_of (T.value (T.tuple (T.call (codes "f") (T.int 1 ∷ []) ∷ T.call (codes "f") (T.int 0 ∷ []) ∷ T.call (codes "error") (T.atom (codes "late") ∷ []) ∷ [])) ∷ []) [] (T.caught_as (P.var (codes "C")) (T.clause (P.var (codes "R") ∷ []) (T.value (T.tuple (T.var (codes "C") ∷ T.var (codes "R") ∷ [])) ∷ [])) ∷ [])) ≡ came (V.tuple (V.atom (codes "throw") ∷ V.atom (codes "zero") ∷ []))

-- [try f(X) catch zero -> none end || X <- [1, 0, 2]]
abbrev pub tries_48 : Type 0
tries_48 = outcome_of records functions (T.comprehension (T.try_of (T.value (T.call (codes "f") (T.var (codes "X") ∷ [])) ∷ []) [] (T.caught (T.clause (P.atom (codes "zero") ∷ []) (T.value (T.atom (codes "none")) ∷ [])) ∷ [])) (T.generator (P.var (codes "X")) (T.list (T.int 1 ∷ T.int 0 ∷ T.int 2 ∷ [])) ∷ [])) ≡ came (V.list (V.int 1 ∷ V.atom (codes "none") ∷ V.int 2 ∷ []))

-- begin X = 1, try X of X -> same catch _ -> c end end
abbrev pub tries_49 : Type 0
tries_49 = outcome_of records functions (T.begin_of (T.match (P.var (codes "X")) (T.int 1) ∷ T.value (T.try_of (T.value (T.var (codes "X")) ∷ []) (T.clause (P.var (codes "X") ∷ []) (T.value (T.atom (codes "same")) ∷ []) ∷ []) (T.caught (T.clause (P.var (codes "_") ∷ []) (T.value (T.atom (codes "c")) ∷ [])) ∷ [])) ∷ [])) ≡ came (V.atom (codes "same"))

-- all of them
abbrev pub Tries : Type 0
Tries = tries_1 × tries_2 × tries_3 × tries_4 × tries_5 × tries_6 × tries_7 × tries_8 × tries_9 × tries_10 × tries_11 × tries_12 × tries_13 × tries_14 × tries_15 × tries_16 × tries_17 × tries_18 × tries_19 × tries_20 × tries_21 × tries_22 × tries_23 × tries_24 × tries_25 × tries_26 × tries_27 × tries_28 × tries_29 × tries_30 × tries_31 × tries_32 × tries_33 × tries_34 × tries_35 × tries_36 × tries_37 × tries_38 × tries_39 × tries_40 × tries_41 × tries_42 × tries_43 × tries_44 × tries_45 × tries_46 × tries_47 × tries_48 × tries_49
