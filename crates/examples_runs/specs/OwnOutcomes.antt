-- Examples of runs: where the definitions are meant to say something else than Erlang does. Written by expressions.escript.
use Rattle.std.specs.Prelude.{◌≡◌, List, [], ◌∷◌, codes}
use Rattle.erl_tree.specs.declared.form.Function.{Function}
use Rattle.erl_tree.specs.declared.form.RecDefKind.{RecDefKind}
use Rattle.erl_tree.specs.declared.expr.UnaryOp.TheVariants as U
use Rattle.erl_tree.specs.declared.expr.BinaryOp.TheVariants as B
use Rattle.erl_runs.specs.Value.{came, wrong}
use Rattle.examples_runs.specs.Trees as T
use Rattle.examples_runs.specs.Patterns as P
use Rattle.examples_runs.specs.Outcomes as V
use Rattle.examples_runs.specs.Outcomes.{outcome_of}

-- -record(point, {x, y = 0}).
-- f(1) -> a.
-- g() -> 1.
-- h() -> 1.
-- make(N) -> fun() -> 1 end.

abbrev pub records : List RecDefKind
records = T.record_of (codes "point") (T.declared (codes "x") ∷ T.declared_with (codes "y") (T.int 0) ∷ []) ∷ []

abbrev pub functions : List Function
functions = T.function (codes "f") (T.clause (P.int 1 ∷ []) (T.value (T.atom (codes "a")) ∷ []) ∷ []) ∷ T.function (codes "g") (T.clause [] (T.value (T.int 1) ∷ []) ∷ []) ∷ T.function (codes "h") (T.clause [] (T.value (T.int 1) ∷ []) ∷ []) ∷ T.function (codes "make") (T.clause (P.var (codes "N") ∷ []) (T.value (T.fun_of (T.clause [] (T.value (T.int 1) ∷ []) ∷ [])) ∷ []) ∷ []) ∷ []

-- 1 + a (Erlang raises error:badarith)
abbrev pub own_outcomes_1 : Type 0
own_outcomes_1 = outcome_of records functions (T.binary B.Add (T.int 1) (T.atom (codes "a"))) ≡ wrong

-- a * 1 (Erlang raises error:badarith)
abbrev pub own_outcomes_2 : Type 0
own_outcomes_2 = outcome_of records functions (T.binary B.Mul (T.atom (codes "a")) (T.int 1)) ≡ wrong

-- {} - 1 (Erlang raises error:badarith)
abbrev pub own_outcomes_3 : Type 0
own_outcomes_3 = outcome_of records functions (T.binary B.Sub (T.tuple []) (T.int 1)) ≡ wrong

-- a div 0 (Erlang raises error:badarith)
abbrev pub own_outcomes_4 : Type 0
own_outcomes_4 = outcome_of records functions (T.binary B.Div (T.atom (codes "a")) (T.int 0)) ≡ wrong

-- 1 rem a (Erlang raises error:badarith)
abbrev pub own_outcomes_5 : Type 0
own_outcomes_5 = outcome_of records functions (T.binary B.Rem (T.int 1) (T.atom (codes "a"))) ≡ wrong

-- - a (Erlang raises error:badarith)
abbrev pub own_outcomes_6 : Type 0
own_outcomes_6 = outcome_of records functions (T.unary U.Minus (T.atom (codes "a"))) ≡ wrong

-- + [] (Erlang raises error:badarith)
abbrev pub own_outcomes_7 : Type 0
own_outcomes_7 = outcome_of records functions (T.unary U.Plus (T.list [])) ≡ wrong

-- 1 and true (Erlang raises error:badarg)
abbrev pub own_outcomes_8 : Type 0
own_outcomes_8 = outcome_of records functions (T.binary B.And (T.int 1) (T.atom (codes "true"))) ≡ wrong

-- false and 1 (Erlang raises error:badarg)
abbrev pub own_outcomes_9 : Type 0
own_outcomes_9 = outcome_of records functions (T.binary B.And (T.atom (codes "false")) (T.int 1)) ≡ wrong

-- a or true (Erlang raises error:badarg)
abbrev pub own_outcomes_10 : Type 0
own_outcomes_10 = outcome_of records functions (T.binary B.Or (T.atom (codes "a")) (T.atom (codes "true"))) ≡ wrong

-- true xor 1 (Erlang raises error:badarg)
abbrev pub own_outcomes_11 : Type 0
own_outcomes_11 = outcome_of records functions (T.binary B.Xor (T.atom (codes "true")) (T.int 1)) ≡ wrong

-- not 1 (Erlang raises error:badarg)
abbrev pub own_outcomes_12 : Type 0
own_outcomes_12 = outcome_of records functions (T.unary U.Not (T.int 1)) ≡ wrong

-- 1 andalso true (Erlang raises error:{badarg,1})
abbrev pub own_outcomes_13 : Type 0
own_outcomes_13 = outcome_of records functions (T.binary B.Andalso (T.int 1) (T.atom (codes "true"))) ≡ wrong

-- a orelse true (Erlang raises error:{badarg,a})
abbrev pub own_outcomes_14 : Type 0
own_outcomes_14 = outcome_of records functions (T.binary B.Orelse (T.atom (codes "a")) (T.atom (codes "true"))) ≡ wrong

-- a ++ [] (Erlang raises error:badarg)
abbrev pub own_outcomes_15 : Type 0
own_outcomes_15 = outcome_of records functions (T.binary B.Append (T.atom (codes "a")) (T.list [])) ≡ wrong

-- [1 | 2] ++ [] (Erlang raises error:badarg)
abbrev pub own_outcomes_16 : Type 0
own_outcomes_16 = outcome_of records functions (T.binary B.Append (T.list_onto (T.int 1 ∷ []) (T.int 2)) (T.list [])) ≡ wrong

-- hd([]) (Erlang raises error:badarg)
abbrev pub own_outcomes_17 : Type 0
own_outcomes_17 = outcome_of records functions (T.call (codes "hd") (T.list [] ∷ [])) ≡ wrong

-- hd(a) (Erlang raises error:badarg)
abbrev pub own_outcomes_18 : Type 0
own_outcomes_18 = outcome_of records functions (T.call (codes "hd") (T.atom (codes "a") ∷ [])) ≡ wrong

-- tl([]) (Erlang raises error:badarg)
abbrev pub own_outcomes_19 : Type 0
own_outcomes_19 = outcome_of records functions (T.call (codes "tl") (T.list [] ∷ [])) ≡ wrong

-- length([1 | 2]) (Erlang raises error:badarg)
abbrev pub own_outcomes_20 : Type 0
own_outcomes_20 = outcome_of records functions (T.call (codes "length") (T.list_onto (T.int 1 ∷ []) (T.int 2) ∷ [])) ≡ wrong

-- length(a) (Erlang raises error:badarg)
abbrev pub own_outcomes_21 : Type 0
own_outcomes_21 = outcome_of records functions (T.call (codes "length") (T.atom (codes "a") ∷ [])) ≡ wrong

-- tuple_size([]) (Erlang raises error:badarg)
abbrev pub own_outcomes_22 : Type 0
own_outcomes_22 = outcome_of records functions (T.call (codes "tuple_size") (T.list [] ∷ [])) ≡ wrong

-- map_size([]) (Erlang raises error:{badmap,[]})
abbrev pub own_outcomes_23 : Type 0
own_outcomes_23 = outcome_of records functions (T.call (codes "map_size") (T.list [] ∷ [])) ≡ wrong

-- abs(a) (Erlang raises error:badarg)
abbrev pub own_outcomes_24 : Type 0
own_outcomes_24 = outcome_of records functions (T.call (codes "abs") (T.atom (codes "a") ∷ [])) ≡ wrong

-- try 1 + a catch _:_ -> caught end (Erlang gives caught)
abbrev pub own_outcomes_25 : Type 0
own_outcomes_25 = outcome_of records functions (T.try_of (T.value (T.binary B.Add (T.int 1) (T.atom (codes "a"))) ∷ []) [] (T.caught_as (P.var (codes "_")) (T.clause (P.var (codes "_") ∷ []) (T.value (T.atom (codes "caught")) ∷ [])) ∷ [])) ≡ wrong

-- try hd([]) catch error:badarg -> caught after 2 end (Erlang gives caught)
abbrev pub own_outcomes_26 : Type 0
own_outcomes_26 = outcome_of records functions (T.try_after (T.value (T.call (codes "hd") (T.list [] ∷ [])) ∷ []) [] (T.caught_as (P.atom (codes "error")) (T.clause (P.atom (codes "badarg") ∷ []) (T.value (T.atom (codes "caught")) ∷ [])) ∷ []) (T.value (T.int 2) ∷ [])) ≡ wrong

-- case 1 of 2 -> a end (Erlang raises error:{case_clause,1})
abbrev pub own_outcomes_27 : Type 0
own_outcomes_27 = outcome_of records functions (T.case_of (T.int 1) (T.clause (P.int 2 ∷ []) (T.value (T.atom (codes "a")) ∷ []) ∷ [])) ≡ wrong

-- case 1 of X when X > 1 -> a end (Erlang raises error:{case_clause,1})
abbrev pub own_outcomes_28 : Type 0
own_outcomes_28 = outcome_of records functions (T.case_of (T.int 1) (T.clause_when (P.var (codes "X") ∷ []) ((T.binary B.Gt (T.var (codes "X")) (T.int 1) ∷ []) ∷ []) (T.value (T.atom (codes "a")) ∷ []) ∷ [])) ≡ wrong

-- if 1 > 2 -> a end (Erlang raises error:if_clause)
abbrev pub own_outcomes_29 : Type 0
own_outcomes_29 = outcome_of records functions (T.if_of (T.clause_when [] ((T.binary B.Gt (T.int 1) (T.int 2) ∷ []) ∷ []) (T.value (T.atom (codes "a")) ∷ []) ∷ [])) ≡ wrong

-- begin 1 = 2 end (Erlang raises error:{badmatch,2})
abbrev pub own_outcomes_30 : Type 0
own_outcomes_30 = outcome_of records functions (T.begin_of (T.match (P.int 1) (T.int 2) ∷ [])) ≡ wrong

-- begin X = 1, X = 2 end (Erlang raises error:{badmatch,2})
abbrev pub own_outcomes_31 : Type 0
own_outcomes_31 = outcome_of records functions (T.begin_of (T.match (P.var (codes "X")) (T.int 1) ∷ T.match (P.var (codes "X")) (T.int 2) ∷ [])) ≡ wrong

-- begin {A, B} = {1, 2, 3}, {A, B} end (Erlang raises error:{badmatch,{1,2,3}})
abbrev pub own_outcomes_32 : Type 0
own_outcomes_32 = outcome_of records functions (T.begin_of (T.match (P.tuple (P.var (codes "A") ∷ P.var (codes "B") ∷ [])) (T.tuple (T.int 1 ∷ T.int 2 ∷ T.int 3 ∷ [])) ∷ T.value (T.tuple (T.var (codes "A") ∷ T.var (codes "B") ∷ [])) ∷ [])) ≡ wrong

-- try 1 of 2 -> a catch _:_ -> b end (Erlang raises error:{try_clause,1})
abbrev pub own_outcomes_33 : Type 0
own_outcomes_33 = outcome_of records functions (T.try_of (T.value (T.int 1) ∷ []) (T.clause (P.int 2 ∷ []) (T.value (T.atom (codes "a")) ∷ []) ∷ []) (T.caught_as (P.var (codes "_")) (T.clause (P.var (codes "_") ∷ []) (T.value (T.atom (codes "b")) ∷ [])) ∷ [])) ≡ wrong

-- f(2) (Erlang raises error:function_clause)
abbrev pub own_outcomes_34 : Type 0
own_outcomes_34 = outcome_of records functions (T.call (codes "f") (T.int 2 ∷ [])) ≡ wrong

-- (fun(1) -> a end)(2) (Erlang raises error:function_clause)
abbrev pub own_outcomes_35 : Type 0
own_outcomes_35 = outcome_of records functions (T.apply (T.paren (T.fun_of (T.clause (P.int 1 ∷ []) (T.value (T.atom (codes "a")) ∷ []) ∷ []))) (T.int 2 ∷ [])) ≡ wrong

-- (fun(X) -> X end)(1, 2) (Erlang raises error:{badarity,{#Fun<m.0.98288534>,[1,2]}})
abbrev pub own_outcomes_36 : Type 0
own_outcomes_36 = outcome_of records functions (T.apply (T.paren (T.fun_of (T.clause (P.var (codes "X") ∷ []) (T.value (T.var (codes "X")) ∷ []) ∷ []))) (T.int 1 ∷ T.int 2 ∷ [])) ≡ wrong

-- (fun f/1)() (Erlang raises error:{badarity,{#Fun<m.0.49878318>,[]}})
abbrev pub own_outcomes_37 : Type 0
own_outcomes_37 = outcome_of records functions (T.apply (T.paren (T.fun_name (codes "f") 1)) []) ≡ wrong

-- begin X = a, X(1) end (Erlang raises error:{badfun,a})
abbrev pub own_outcomes_38 : Type 0
own_outcomes_38 = outcome_of records functions (T.begin_of (T.match (P.var (codes "X")) (T.atom (codes "a")) ∷ T.value (T.apply (T.var (codes "X")) (T.int 1 ∷ [])) ∷ [])) ≡ wrong

-- #{{} => 1} (Erlang gives #{{} => 1})
abbrev pub own_outcomes_39 : Type 0
own_outcomes_39 = outcome_of records functions (T.map_new (T.sets (T.tuple []) (T.int 1) ∷ [])) ≡ wrong

-- #{"a" => 1} (Erlang gives #{[97] => 1})
abbrev pub own_outcomes_40 : Type 0
own_outcomes_40 = outcome_of records functions (T.map_new (T.sets (T.text (codes "a")) (T.int 1) ∷ [])) ≡ wrong

-- #{a => 1}#{[] := 1} (Erlang raises error:{badkey,[]})
abbrev pub own_outcomes_41 : Type 0
own_outcomes_41 = outcome_of records functions (T.map_change (T.map_new (T.sets (T.atom (codes "a")) (T.int 1) ∷ [])) (T.replaces (T.list []) (T.int 1) ∷ [])) ≡ wrong

-- begin X = a, X#{a => 1} end (Erlang raises error:{badmap,a})
abbrev pub own_outcomes_42 : Type 0
own_outcomes_42 = outcome_of records functions (T.begin_of (T.match (P.var (codes "X")) (T.atom (codes "a")) ∷ T.value (T.map_change (T.var (codes "X")) (T.sets (T.atom (codes "a")) (T.int 1) ∷ [])) ∷ [])) ≡ wrong

-- begin X = a, X#point.x end (Erlang raises error:{badrecord,a})
abbrev pub own_outcomes_43 : Type 0
own_outcomes_43 = outcome_of records functions (T.begin_of (T.match (P.var (codes "X")) (T.atom (codes "a")) ∷ T.value (T.rec_get (T.var (codes "X")) (codes "point") (codes "x")) ∷ [])) ≡ wrong

-- begin X = {point, 1}, X#point{x = 1} end (Erlang raises error:{badrecord,{point,1}})
abbrev pub own_outcomes_44 : Type 0
own_outcomes_44 = outcome_of records functions (T.begin_of (T.match (P.var (codes "X")) (T.tuple (T.atom (codes "point") ∷ T.int 1 ∷ [])) ∷ T.value (T.rec_change (T.var (codes "X")) (codes "point") (T.field (codes "x") (T.int 1) ∷ [])) ∷ [])) ≡ wrong

-- [X || X <- a] (Erlang raises error:{bad_generator,a})
abbrev pub own_outcomes_45 : Type 0
own_outcomes_45 = outcome_of records functions (T.comprehension (T.var (codes "X")) (T.generator (P.var (codes "X")) (T.atom (codes "a")) ∷ [])) ≡ wrong

-- [X || X <- [1 | 2]] (Erlang raises error:{bad_generator,2})
abbrev pub own_outcomes_46 : Type 0
own_outcomes_46 = outcome_of records functions (T.comprehension (T.var (codes "X")) (T.generator (P.var (codes "X")) (T.list_onto (T.int 1 ∷ []) (T.int 2)) ∷ [])) ≡ wrong

-- [throw(X) || X <- [1 | 2]] (Erlang raises throw:1)
abbrev pub own_outcomes_47 : Type 0
own_outcomes_47 = outcome_of records functions (T.comprehension (T.call (codes "throw") (T.var (codes "X") ∷ [])) (T.generator (P.var (codes "X")) (T.list_onto (T.int 1 ∷ []) (T.int 2)) ∷ [])) ≡ wrong

-- [X || X <- [1], begin X end] (Erlang raises error:{bad_filter,1})
abbrev pub own_outcomes_48 : Type 0
own_outcomes_48 = outcome_of records functions (T.comprehension (T.var (codes "X")) (T.generator (P.var (codes "X")) (T.list (T.int 1 ∷ [])) ∷ T.filter (T.begin_of (T.value (T.var (codes "X")) ∷ [])) ∷ [])) ≡ wrong

-- begin case 1 of 1 -> X = 2 end, X end (Erlang gives 2)
abbrev pub own_outcomes_49 : Type 0
own_outcomes_49 = outcome_of records functions (T.begin_of (T.value (T.case_of (T.int 1) (T.clause (P.int 1 ∷ []) (T.match (P.var (codes "X")) (T.int 2) ∷ []) ∷ [])) ∷ T.value (T.var (codes "X")) ∷ [])) ≡ wrong

-- begin begin X = 2 end, X end (Erlang gives 2)
abbrev pub own_outcomes_50 : Type 0
own_outcomes_50 = outcome_of records functions (T.begin_of (T.value (T.begin_of (T.match (P.var (codes "X")) (T.int 2) ∷ [])) ∷ T.value (T.var (codes "X")) ∷ [])) ≡ wrong

-- fun g/0 < fun h/0 (Erlang gives true)
abbrev pub own_outcomes_51 : Type 0
own_outcomes_51 = outcome_of records functions (T.binary B.Lt (T.fun_name (codes "g") 0) (T.fun_name (codes "h") 0)) ≡ came (V.atom (codes "true"))

-- fun h/0 < fun() -> 1 end (Erlang gives true)
abbrev pub own_outcomes_52 : Type 0
own_outcomes_52 = outcome_of records functions (T.binary B.Lt (T.fun_name (codes "h") 0) (T.fun_of (T.clause [] (T.value (T.int 1) ∷ []) ∷ []))) ≡ came (V.atom (codes "true"))

-- make(1) == make(2) (Erlang gives true)
abbrev pub own_outcomes_53 : Type 0
own_outcomes_53 = outcome_of records functions (T.binary B.Eq (T.call (codes "make") (T.int 1 ∷ [])) (T.call (codes "make") (T.int 2 ∷ []))) ≡ came (V.atom (codes "false"))

-- make(1) == make(1)
abbrev pub own_outcomes_54 : Type 0
own_outcomes_54 = outcome_of records functions (T.binary B.Eq (T.call (codes "make") (T.int 1 ∷ [])) (T.call (codes "make") (T.int 1 ∷ []))) ≡ came (V.atom (codes "true"))

-- make(1) < make(2) (Erlang gives false)
abbrev pub own_outcomes_55 : Type 0
own_outcomes_55 = outcome_of records functions (T.binary B.Lt (T.call (codes "make") (T.int 1 ∷ [])) (T.call (codes "make") (T.int 2 ∷ []))) ≡ came (V.atom (codes "true"))

-- all of them
abbrev pub OwnOutcomes : Type 0
OwnOutcomes = own_outcomes_1 × own_outcomes_2 × own_outcomes_3 × own_outcomes_4 × own_outcomes_5 × own_outcomes_6 × own_outcomes_7 × own_outcomes_8 × own_outcomes_9 × own_outcomes_10 × own_outcomes_11 × own_outcomes_12 × own_outcomes_13 × own_outcomes_14 × own_outcomes_15 × own_outcomes_16 × own_outcomes_17 × own_outcomes_18 × own_outcomes_19 × own_outcomes_20 × own_outcomes_21 × own_outcomes_22 × own_outcomes_23 × own_outcomes_24 × own_outcomes_25 × own_outcomes_26 × own_outcomes_27 × own_outcomes_28 × own_outcomes_29 × own_outcomes_30 × own_outcomes_31 × own_outcomes_32 × own_outcomes_33 × own_outcomes_34 × own_outcomes_35 × own_outcomes_36 × own_outcomes_37 × own_outcomes_38 × own_outcomes_39 × own_outcomes_40 × own_outcomes_41 × own_outcomes_42 × own_outcomes_43 × own_outcomes_44 × own_outcomes_45 × own_outcomes_46 × own_outcomes_47 × own_outcomes_48 × own_outcomes_49 × own_outcomes_50 × own_outcomes_51 × own_outcomes_52 × own_outcomes_53 × own_outcomes_54 × own_outcomes_55
