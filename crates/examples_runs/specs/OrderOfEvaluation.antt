-- Examples of runs: what is evaluated first. Written by expressions.escript.
use Rattle.std.specs.Prelude.{◌≡◌, List, [], ◌∷◌, codes}
use Rattle.erl_tree.specs.declared.form.Function.{Function}
use Rattle.erl_tree.specs.declared.form.RecDefKind.{RecDefKind}
use Rattle.erl_tree.specs.declared.expr.UnaryOp.TheVariants as U
use Rattle.erl_tree.specs.declared.expr.BinaryOp.TheVariants as B
use Rattle.erl_runs.specs.Value.{came, raised, error, throw}
use Rattle.examples_runs.specs.Trees as T
use Rattle.examples_runs.specs.Patterns as P
use Rattle.examples_runs.specs.Outcomes as V
use Rattle.examples_runs.specs.Outcomes.{outcome_of}

-- -record(point, {x, y = 0}).
-- set(M, K, L) -> M#{K := 1, L := 2}.
-- f(_, _) -> throw(f).

abbrev pub records : List RecDefKind
records = T.record_of (codes "point") (T.declared (codes "x") ∷ T.declared_with (codes "y") (T.int 0) ∷ []) ∷ []

abbrev pub functions : List Function
functions = T.function (codes "set") (T.clause (P.var (codes "M") ∷ P.var (codes "K") ∷ P.var (codes "L") ∷ []) (T.value (T.map_change (T.var (codes "M")) (T.replaces (T.var (codes "K")) (T.int 1) ∷ T.replaces (T.var (codes "L")) (T.int 2) ∷ [])) ∷ []) ∷ []) ∷ T.function (codes "f") (T.clause (P.var (codes "_") ∷ P.var (codes "_") ∷ []) (T.value (T.call (codes "throw") (T.atom (codes "f") ∷ [])) ∷ []) ∷ []) ∷ []

-- {throw(1), throw(2)}
abbrev pub order_of_evaluation_1 : Type 0
order_of_evaluation_1 = outcome_of records functions (T.tuple (T.call (codes "throw") (T.int 1 ∷ []) ∷ T.call (codes "throw") (T.int 2 ∷ []) ∷ [])) ≡ raised throw (V.int 1)

-- {1 div 0, throw(2)}
abbrev pub order_of_evaluation_2 : Type 0
order_of_evaluation_2 = outcome_of records functions (T.tuple (T.binary B.Div (T.int 1) (T.int 0) ∷ T.call (codes "throw") (T.int 2 ∷ []) ∷ [])) ≡ raised error (V.atom (codes "badarith"))

-- {throw(1), 1 div 0}
abbrev pub order_of_evaluation_3 : Type 0
order_of_evaluation_3 = outcome_of records functions (T.tuple (T.call (codes "throw") (T.int 1 ∷ []) ∷ T.binary B.Div (T.int 1) (T.int 0) ∷ [])) ≡ raised throw (V.int 1)

-- [throw(1), throw(2)]
abbrev pub order_of_evaluation_4 : Type 0
order_of_evaluation_4 = outcome_of records functions (T.list (T.call (codes "throw") (T.int 1 ∷ []) ∷ T.call (codes "throw") (T.int 2 ∷ []) ∷ [])) ≡ raised throw (V.int 1)

-- [throw(1) | throw(2)]
abbrev pub order_of_evaluation_5 : Type 0
order_of_evaluation_5 = outcome_of records functions (T.list_onto (T.call (codes "throw") (T.int 1 ∷ []) ∷ []) (T.call (codes "throw") (T.int 2 ∷ []))) ≡ raised throw (V.int 1)

-- [a | throw(2)]
abbrev pub order_of_evaluation_6 : Type 0
order_of_evaluation_6 = outcome_of records functions (T.list_onto (T.atom (codes "a") ∷ []) (T.call (codes "throw") (T.int 2 ∷ []))) ≡ raised throw (V.int 2)

-- throw(1) + throw(2)
abbrev pub order_of_evaluation_7 : Type 0
order_of_evaluation_7 = outcome_of records functions (T.binary B.Add (T.call (codes "throw") (T.int 1 ∷ [])) (T.call (codes "throw") (T.int 2 ∷ []))) ≡ raised throw (V.int 1)

-- (1 div 0) + throw(2)
abbrev pub order_of_evaluation_8 : Type 0
order_of_evaluation_8 = outcome_of records functions (T.binary B.Add (T.paren (T.binary B.Div (T.int 1) (T.int 0))) (T.call (codes "throw") (T.int 2 ∷ []))) ≡ raised error (V.atom (codes "badarith"))

-- 1 div 0 < throw(2)
abbrev pub order_of_evaluation_9 : Type 0
order_of_evaluation_9 = outcome_of records functions (T.binary B.Lt (T.binary B.Div (T.int 1) (T.int 0)) (T.call (codes "throw") (T.int 2 ∷ []))) ≡ raised error (V.atom (codes "badarith"))

-- throw(1) =:= throw(2)
abbrev pub order_of_evaluation_10 : Type 0
order_of_evaluation_10 = outcome_of records functions (T.binary B.ExactEq (T.call (codes "throw") (T.int 1 ∷ [])) (T.call (codes "throw") (T.int 2 ∷ []))) ≡ raised throw (V.int 1)

-- throw(1) ++ throw(2)
abbrev pub order_of_evaluation_11 : Type 0
order_of_evaluation_11 = outcome_of records functions (T.binary B.Append (T.call (codes "throw") (T.int 1 ∷ [])) (T.call (codes "throw") (T.int 2 ∷ []))) ≡ raised throw (V.int 1)

-- throw(1) and throw(2)
abbrev pub order_of_evaluation_12 : Type 0
order_of_evaluation_12 = outcome_of records functions (T.binary B.And (T.call (codes "throw") (T.int 1 ∷ [])) (T.call (codes "throw") (T.int 2 ∷ []))) ≡ raised throw (V.int 1)

-- not throw(1)
abbrev pub order_of_evaluation_13 : Type 0
order_of_evaluation_13 = outcome_of records functions (T.unary U.Not (T.call (codes "throw") (T.int 1 ∷ []))) ≡ raised throw (V.int 1)

-- - throw(1)
abbrev pub order_of_evaluation_14 : Type 0
order_of_evaluation_14 = outcome_of records functions (T.unary U.Minus (T.call (codes "throw") (T.int 1 ∷ []))) ≡ raised throw (V.int 1)

-- f(throw(1), throw(2))
abbrev pub order_of_evaluation_15 : Type 0
order_of_evaluation_15 = outcome_of records functions (T.call (codes "f") (T.call (codes "throw") (T.int 1 ∷ []) ∷ T.call (codes "throw") (T.int 2 ∷ []) ∷ [])) ≡ raised throw (V.int 1)

-- f(1, throw(2))
abbrev pub order_of_evaluation_16 : Type 0
order_of_evaluation_16 = outcome_of records functions (T.call (codes "f") (T.int 1 ∷ T.call (codes "throw") (T.int 2 ∷ []) ∷ [])) ≡ raised throw (V.int 2)

-- f(1, 2)
abbrev pub order_of_evaluation_17 : Type 0
order_of_evaluation_17 = outcome_of records functions (T.call (codes "f") (T.int 1 ∷ T.int 2 ∷ [])) ≡ raised throw (V.atom (codes "f"))

-- (throw(1))(throw(2))
abbrev pub order_of_evaluation_18 : Type 0
order_of_evaluation_18 = outcome_of records functions (T.apply (T.paren (T.call (codes "throw") (T.int 1 ∷ []))) (T.call (codes "throw") (T.int 2 ∷ []) ∷ [])) ≡ raised throw (V.int 1)

-- hd(throw(1))
abbrev pub order_of_evaluation_19 : Type 0
order_of_evaluation_19 = outcome_of records functions (T.call (codes "hd") (T.call (codes "throw") (T.int 1 ∷ []) ∷ [])) ≡ raised throw (V.int 1)

-- error(throw(1))
abbrev pub order_of_evaluation_20 : Type 0
order_of_evaluation_20 = outcome_of records functions (T.call (codes "error") (T.call (codes "throw") (T.int 1 ∷ []) ∷ [])) ≡ raised throw (V.int 1)

-- #{throw(1) => throw(2)}
abbrev pub order_of_evaluation_21 : Type 0
order_of_evaluation_21 = outcome_of records functions (T.map_new (T.sets (T.call (codes "throw") (T.int 1 ∷ [])) (T.call (codes "throw") (T.int 2 ∷ [])) ∷ [])) ≡ raised throw (V.int 1)

-- #{a => throw(1), b => throw(2)}
abbrev pub order_of_evaluation_22 : Type 0
order_of_evaluation_22 = outcome_of records functions (T.map_new (T.sets (T.atom (codes "a")) (T.call (codes "throw") (T.int 1 ∷ [])) ∷ T.sets (T.atom (codes "b")) (T.call (codes "throw") (T.int 2 ∷ [])) ∷ [])) ≡ raised throw (V.int 1)

-- #{a => throw(1), throw(2) => b}
abbrev pub order_of_evaluation_23 : Type 0
order_of_evaluation_23 = outcome_of records functions (T.map_new (T.sets (T.atom (codes "a")) (T.call (codes "throw") (T.int 1 ∷ [])) ∷ T.sets (T.call (codes "throw") (T.int 2 ∷ [])) (T.atom (codes "b")) ∷ [])) ≡ raised throw (V.int 1)

-- (throw(1))#{a => throw(2)}
abbrev pub order_of_evaluation_24 : Type 0
order_of_evaluation_24 = outcome_of records functions (T.map_change (T.paren (T.call (codes "throw") (T.int 1 ∷ []))) (T.sets (T.atom (codes "a")) (T.call (codes "throw") (T.int 2 ∷ [])) ∷ [])) ≡ raised throw (V.int 1)

-- #{}#{a := throw(1)}
abbrev pub order_of_evaluation_25 : Type 0
order_of_evaluation_25 = outcome_of records functions (T.map_change (T.map_new []) (T.replaces (T.atom (codes "a")) (T.call (codes "throw") (T.int 1 ∷ [])) ∷ [])) ≡ raised throw (V.int 1)

-- #{}#{a := 1, b => throw(2)}
abbrev pub order_of_evaluation_26 : Type 0
order_of_evaluation_26 = outcome_of records functions (T.map_change (T.map_new []) (T.replaces (T.atom (codes "a")) (T.int 1) ∷ T.sets (T.atom (codes "b")) (T.call (codes "throw") (T.int 2 ∷ [])) ∷ [])) ≡ raised throw (V.int 2)

-- #{}#{a := 1, b := 2}
abbrev pub order_of_evaluation_27 : Type 0
order_of_evaluation_27 = outcome_of records functions (T.map_change (T.map_new []) (T.replaces (T.atom (codes "a")) (T.int 1) ∷ T.replaces (T.atom (codes "b")) (T.int 2) ∷ [])) ≡ raised error (V.tuple (V.atom (codes "badkey") ∷ V.atom (codes "a") ∷ []))

-- set(#{}, b, a)
abbrev pub order_of_evaluation_28 : Type 0
order_of_evaluation_28 = outcome_of records functions (T.call (codes "set") (T.map_new [] ∷ T.atom (codes "b") ∷ T.atom (codes "a") ∷ [])) ≡ raised error (V.tuple (V.atom (codes "badkey") ∷ V.atom (codes "b") ∷ []))

-- set(#{}, a, b)
abbrev pub order_of_evaluation_29 : Type 0
order_of_evaluation_29 = outcome_of records functions (T.call (codes "set") (T.map_new [] ∷ T.atom (codes "a") ∷ T.atom (codes "b") ∷ [])) ≡ raised error (V.tuple (V.atom (codes "badkey") ∷ V.atom (codes "a") ∷ []))

-- set(#{b => 0}, b, a)
abbrev pub order_of_evaluation_30 : Type 0
order_of_evaluation_30 = outcome_of records functions (T.call (codes "set") (T.map_new (T.sets (T.atom (codes "b")) (T.int 0) ∷ []) ∷ T.atom (codes "b") ∷ T.atom (codes "a") ∷ [])) ≡ raised error (V.tuple (V.atom (codes "badkey") ∷ V.atom (codes "a") ∷ []))

-- #point{x = throw(1), y = throw(2)}
abbrev pub order_of_evaluation_31 : Type 0
order_of_evaluation_31 = outcome_of records functions (T.rec_new (codes "point") (T.field (codes "x") (T.call (codes "throw") (T.int 1 ∷ [])) ∷ T.field (codes "y") (T.call (codes "throw") (T.int 2 ∷ [])) ∷ [])) ≡ raised throw (V.int 1)

-- #point{x = 1}#point{x = throw(1), y = throw(2)}
abbrev pub order_of_evaluation_32 : Type 0
order_of_evaluation_32 = outcome_of records functions (T.rec_change (T.rec_new (codes "point") (T.field (codes "x") (T.int 1) ∷ [])) (codes "point") (T.field (codes "x") (T.call (codes "throw") (T.int 1 ∷ [])) ∷ T.field (codes "y") (T.call (codes "throw") (T.int 2 ∷ [])) ∷ [])) ≡ raised throw (V.int 1)

-- #point{x = 1}#point{y = throw(1), x = throw(2)}
abbrev pub order_of_evaluation_33 : Type 0
order_of_evaluation_33 = outcome_of records functions (T.rec_change (T.rec_new (codes "point") (T.field (codes "x") (T.int 1) ∷ [])) (codes "point") (T.field (codes "y") (T.call (codes "throw") (T.int 1 ∷ [])) ∷ T.field (codes "x") (T.call (codes "throw") (T.int 2 ∷ [])) ∷ [])) ≡ raised throw (V.int 1)

-- (throw(1))#point.x
abbrev pub order_of_evaluation_34 : Type 0
order_of_evaluation_34 = outcome_of records functions (T.rec_get (T.paren (T.call (codes "throw") (T.int 1 ∷ []))) (codes "point") (codes "x")) ≡ raised throw (V.int 1)

-- case throw(1) of _ -> throw(2) end
abbrev pub order_of_evaluation_35 : Type 0
order_of_evaluation_35 = outcome_of records functions (T.case_of (T.call (codes "throw") (T.int 1 ∷ [])) (T.clause (P.var (codes "_") ∷ []) (T.value (T.call (codes "throw") (T.int 2 ∷ [])) ∷ []) ∷ [])) ≡ raised throw (V.int 1)

-- case 1 of 2 -> throw(1); 1 -> throw(2) end
abbrev pub order_of_evaluation_36 : Type 0
order_of_evaluation_36 = outcome_of records functions (T.case_of (T.int 1) (T.clause (P.int 2 ∷ []) (T.value (T.call (codes "throw") (T.int 1 ∷ [])) ∷ []) ∷ T.clause (P.int 1 ∷ []) (T.value (T.call (codes "throw") (T.int 2 ∷ [])) ∷ []) ∷ [])) ≡ raised throw (V.int 2)

-- try throw(1) of _ -> throw(2) catch _ -> throw(3) after throw(4) end
abbrev pub order_of_evaluation_37 : Type 0
order_of_evaluation_37 = outcome_of records functions (T.try_after (T.value (T.call (codes "throw") (T.int 1 ∷ [])) ∷ []) (T.clause (P.var (codes "_") ∷ []) (T.value (T.call (codes "throw") (T.int 2 ∷ [])) ∷ []) ∷ []) (T.caught (T.clause (P.var (codes "_") ∷ []) (T.value (T.call (codes "throw") (T.int 3 ∷ [])) ∷ [])) ∷ []) (T.value (T.call (codes "throw") (T.int 4 ∷ [])) ∷ [])) ≡ raised throw (V.int 4)

-- try throw(1) of _ -> throw(2) catch _ -> throw(3) end
abbrev pub order_of_evaluation_38 : Type 0
order_of_evaluation_38 = outcome_of records functions (T.try_of (T.value (T.call (codes "throw") (T.int 1 ∷ [])) ∷ []) (T.clause (P.var (codes "_") ∷ []) (T.value (T.call (codes "throw") (T.int 2 ∷ [])) ∷ []) ∷ []) (T.caught (T.clause (P.var (codes "_") ∷ []) (T.value (T.call (codes "throw") (T.int 3 ∷ [])) ∷ [])) ∷ [])) ≡ raised throw (V.int 3)

-- [throw({X, Y}) || X <- [1, 2], Y <- [3, 4]]
abbrev pub order_of_evaluation_39 : Type 0
order_of_evaluation_39 = outcome_of records functions (T.comprehension (T.call (codes "throw") (T.tuple (T.var (codes "X") ∷ T.var (codes "Y") ∷ []) ∷ [])) (T.generator (P.var (codes "X")) (T.list (T.int 1 ∷ T.int 2 ∷ [])) ∷ T.generator (P.var (codes "Y")) (T.list (T.int 3 ∷ T.int 4 ∷ [])) ∷ [])) ≡ raised throw (V.tuple (V.int 1 ∷ V.int 3 ∷ []))

-- [throw(head) || throw(qualifier)]
abbrev pub order_of_evaluation_40 : Type 0
order_of_evaluation_40 = outcome_of records functions (T.comprehension (T.call (codes "throw") (T.atom (codes "head") ∷ [])) (T.filter (T.call (codes "throw") (T.atom (codes "qualifier") ∷ [])) ∷ [])) ≡ raised throw (V.atom (codes "qualifier"))

-- [throw(head) || _ <- [], throw(qualifier)]
abbrev pub order_of_evaluation_41 : Type 0
order_of_evaluation_41 = outcome_of records functions (T.comprehension (T.call (codes "throw") (T.atom (codes "head") ∷ [])) (T.generator (P.var (codes "_")) (T.list []) ∷ T.filter (T.call (codes "throw") (T.atom (codes "qualifier") ∷ [])) ∷ [])) ≡ came (V.list [])

-- [X || X <- [1, 2], Y <- [throw(X)], Y]
abbrev pub order_of_evaluation_42 : Type 0
order_of_evaluation_42 = outcome_of records functions (T.comprehension (T.var (codes "X")) (T.generator (P.var (codes "X")) (T.list (T.int 1 ∷ T.int 2 ∷ [])) ∷ T.generator (P.var (codes "Y")) (T.list (T.call (codes "throw") (T.var (codes "X") ∷ []) ∷ [])) ∷ T.filter (T.var (codes "Y")) ∷ [])) ≡ raised throw (V.int 1)

-- (fun(_) -> throw(body) end)(throw(argument))
abbrev pub order_of_evaluation_43 : Type 0
order_of_evaluation_43 = outcome_of records functions (T.apply (T.paren (T.fun_of (T.clause (P.var (codes "_") ∷ []) (T.value (T.call (codes "throw") (T.atom (codes "body") ∷ [])) ∷ []) ∷ []))) (T.call (codes "throw") (T.atom (codes "argument") ∷ []) ∷ [])) ≡ raised throw (V.atom (codes "argument"))

-- all of them
abbrev pub OrderOfEvaluation : Type 0
OrderOfEvaluation = order_of_evaluation_1 × order_of_evaluation_2 × order_of_evaluation_3 × order_of_evaluation_4 × order_of_evaluation_5 × order_of_evaluation_6 × order_of_evaluation_7 × order_of_evaluation_8 × order_of_evaluation_9 × order_of_evaluation_10 × order_of_evaluation_11 × order_of_evaluation_12 × order_of_evaluation_13 × order_of_evaluation_14 × order_of_evaluation_15 × order_of_evaluation_16 × order_of_evaluation_17 × order_of_evaluation_18 × order_of_evaluation_19 × order_of_evaluation_20 × order_of_evaluation_21 × order_of_evaluation_22 × order_of_evaluation_23 × order_of_evaluation_24 × order_of_evaluation_25 × order_of_evaluation_26 × order_of_evaluation_27 × order_of_evaluation_28 × order_of_evaluation_29 × order_of_evaluation_30 × order_of_evaluation_31 × order_of_evaluation_32 × order_of_evaluation_33 × order_of_evaluation_34 × order_of_evaluation_35 × order_of_evaluation_36 × order_of_evaluation_37 × order_of_evaluation_38 × order_of_evaluation_39 × order_of_evaluation_40 × order_of_evaluation_41 × order_of_evaluation_42 × order_of_evaluation_43
