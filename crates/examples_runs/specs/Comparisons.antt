-- Examples of runs: comparisons of values of one kind. Written by expressions.escript.
use Rattle.std.specs.Prelude.{◌≡◌, List, [], ◌∷◌, codes}
use Rattle.erl_tree.specs.declared.form.Function.{Function}
use Rattle.erl_tree.specs.declared.form.RecDefKind.{RecDefKind}
use Rattle.erl_tree.specs.declared.expr.UnaryOp.TheVariants as U
use Rattle.erl_tree.specs.declared.expr.BinaryOp.TheVariants as B
use Rattle.erl_runs.specs.Value.{came}
use Rattle.examples_runs.specs.Trees as T
use Rattle.examples_runs.specs.Outcomes as V
use Rattle.examples_runs.specs.Outcomes.{outcome_of}

abbrev pub records : List RecDefKind
records = []

abbrev pub functions : List Function
functions = []

-- 1 < 2
abbrev pub comparisons_1 : Type 0
comparisons_1 = outcome_of records functions (T.binary B.Lt (T.int 1) (T.int 2)) ≡ came (V.atom (codes "true"))

-- 2 < 1
abbrev pub comparisons_2 : Type 0
comparisons_2 = outcome_of records functions (T.binary B.Lt (T.int 2) (T.int 1)) ≡ came (V.atom (codes "false"))

-- -1 < 0
abbrev pub comparisons_3 : Type 0
comparisons_3 = outcome_of records functions (T.binary B.Lt (T.unary U.Minus (T.int 1)) (T.int 0)) ≡ came (V.atom (codes "true"))

-- -2 < -1
abbrev pub comparisons_4 : Type 0
comparisons_4 = outcome_of records functions (T.binary B.Lt (T.unary U.Minus (T.int 2)) (T.unary U.Minus (T.int 1))) ≡ came (V.atom (codes "true"))

-- 1 =< 1
abbrev pub comparisons_5 : Type 0
comparisons_5 = outcome_of records functions (T.binary B.Le (T.int 1) (T.int 1)) ≡ came (V.atom (codes "true"))

-- 1 >= 2
abbrev pub comparisons_6 : Type 0
comparisons_6 = outcome_of records functions (T.binary B.Ge (T.int 1) (T.int 2)) ≡ came (V.atom (codes "false"))

-- 2 > -3
abbrev pub comparisons_7 : Type 0
comparisons_7 = outcome_of records functions (T.binary B.Gt (T.int 2) (T.unary U.Minus (T.int 3))) ≡ came (V.atom (codes "true"))

-- 1 == 1
abbrev pub comparisons_8 : Type 0
comparisons_8 = outcome_of records functions (T.binary B.Eq (T.int 1) (T.int 1)) ≡ came (V.atom (codes "true"))

-- 1 =:= 1
abbrev pub comparisons_9 : Type 0
comparisons_9 = outcome_of records functions (T.binary B.ExactEq (T.int 1) (T.int 1)) ≡ came (V.atom (codes "true"))

-- 1 /= 1
abbrev pub comparisons_10 : Type 0
comparisons_10 = outcome_of records functions (T.binary B.Ne (T.int 1) (T.int 1)) ≡ came (V.atom (codes "false"))

-- 1 =/= 2
abbrev pub comparisons_11 : Type 0
comparisons_11 = outcome_of records functions (T.binary B.ExactNe (T.int 1) (T.int 2)) ≡ came (V.atom (codes "true"))

-- 1 == 2
abbrev pub comparisons_12 : Type 0
comparisons_12 = outcome_of records functions (T.binary B.Eq (T.int 1) (T.int 2)) ≡ came (V.atom (codes "false"))

-- a < b
abbrev pub comparisons_13 : Type 0
comparisons_13 = outcome_of records functions (T.binary B.Lt (T.atom (codes "a")) (T.atom (codes "b"))) ≡ came (V.atom (codes "true"))

-- ab < abc
abbrev pub comparisons_14 : Type 0
comparisons_14 = outcome_of records functions (T.binary B.Lt (T.atom (codes "ab")) (T.atom (codes "abc"))) ≡ came (V.atom (codes "true"))

-- 'B' < a
abbrev pub comparisons_15 : Type 0
comparisons_15 = outcome_of records functions (T.binary B.Lt (T.atom (codes "B")) (T.atom (codes "a"))) ≡ came (V.atom (codes "true"))

-- '' < a
abbrev pub comparisons_16 : Type 0
comparisons_16 = outcome_of records functions (T.binary B.Lt (T.atom []) (T.atom (codes "a"))) ≡ came (V.atom (codes "true"))

-- abc < abd
abbrev pub comparisons_17 : Type 0
comparisons_17 = outcome_of records functions (T.binary B.Lt (T.atom (codes "abc")) (T.atom (codes "abd"))) ≡ came (V.atom (codes "true"))

-- 'é' > z
abbrev pub comparisons_18 : Type 0
comparisons_18 = outcome_of records functions (T.binary B.Gt (T.atom (195 ∷ 169 ∷ [])) (T.atom (codes "z"))) ≡ came (V.atom (codes "true"))

-- a == a
abbrev pub comparisons_19 : Type 0
comparisons_19 = outcome_of records functions (T.binary B.Eq (T.atom (codes "a")) (T.atom (codes "a"))) ≡ came (V.atom (codes "true"))

-- a =/= b
abbrev pub comparisons_20 : Type 0
comparisons_20 = outcome_of records functions (T.binary B.ExactNe (T.atom (codes "a")) (T.atom (codes "b"))) ≡ came (V.atom (codes "true"))

-- {} < {1}
abbrev pub comparisons_21 : Type 0
comparisons_21 = outcome_of records functions (T.binary B.Lt (T.tuple []) (T.tuple (T.int 1 ∷ []))) ≡ came (V.atom (codes "true"))

-- {2} < {1, 1}
abbrev pub comparisons_22 : Type 0
comparisons_22 = outcome_of records functions (T.binary B.Lt (T.tuple (T.int 2 ∷ [])) (T.tuple (T.int 1 ∷ T.int 1 ∷ []))) ≡ came (V.atom (codes "true"))

-- {1, 2} < {1, 3}
abbrev pub comparisons_23 : Type 0
comparisons_23 = outcome_of records functions (T.binary B.Lt (T.tuple (T.int 1 ∷ T.int 2 ∷ [])) (T.tuple (T.int 1 ∷ T.int 3 ∷ []))) ≡ came (V.atom (codes "true"))

-- {1, 2} == {1, 2}
abbrev pub comparisons_24 : Type 0
comparisons_24 = outcome_of records functions (T.binary B.Eq (T.tuple (T.int 1 ∷ T.int 2 ∷ [])) (T.tuple (T.int 1 ∷ T.int 2 ∷ []))) ≡ came (V.atom (codes "true"))

-- {1, a} > {1, 2}
abbrev pub comparisons_25 : Type 0
comparisons_25 = outcome_of records functions (T.binary B.Gt (T.tuple (T.int 1 ∷ T.atom (codes "a") ∷ [])) (T.tuple (T.int 1 ∷ T.int 2 ∷ []))) ≡ came (V.atom (codes "true"))

-- [] == []
abbrev pub comparisons_26 : Type 0
comparisons_26 = outcome_of records functions (T.binary B.Eq (T.list []) (T.list [])) ≡ came (V.atom (codes "true"))

-- [1] < [2]
abbrev pub comparisons_27 : Type 0
comparisons_27 = outcome_of records functions (T.binary B.Lt (T.list (T.int 1 ∷ [])) (T.list (T.int 2 ∷ []))) ≡ came (V.atom (codes "true"))

-- [1, 2] < [1, 3]
abbrev pub comparisons_28 : Type 0
comparisons_28 = outcome_of records functions (T.binary B.Lt (T.list (T.int 1 ∷ T.int 2 ∷ [])) (T.list (T.int 1 ∷ T.int 3 ∷ []))) ≡ came (V.atom (codes "true"))

-- [1] < [1, 2]
abbrev pub comparisons_29 : Type 0
comparisons_29 = outcome_of records functions (T.binary B.Lt (T.list (T.int 1 ∷ [])) (T.list (T.int 1 ∷ T.int 2 ∷ []))) ≡ came (V.atom (codes "true"))

-- [2] < [1, 2]
abbrev pub comparisons_30 : Type 0
comparisons_30 = outcome_of records functions (T.binary B.Lt (T.list (T.int 2 ∷ [])) (T.list (T.int 1 ∷ T.int 2 ∷ []))) ≡ came (V.atom (codes "false"))

-- [1 | 2] < [1, 2]
abbrev pub comparisons_31 : Type 0
comparisons_31 = outcome_of records functions (T.binary B.Lt (T.list_onto (T.int 1 ∷ []) (T.int 2)) (T.list (T.int 1 ∷ T.int 2 ∷ []))) ≡ came (V.atom (codes "true"))

-- [1 | 2] < [1]
abbrev pub comparisons_32 : Type 0
comparisons_32 = outcome_of records functions (T.binary B.Lt (T.list_onto (T.int 1 ∷ []) (T.int 2)) (T.list (T.int 1 ∷ []))) ≡ came (V.atom (codes "true"))

-- [1 | a] =< [1 | a]
abbrev pub comparisons_33 : Type 0
comparisons_33 = outcome_of records functions (T.binary B.Le (T.list_onto (T.int 1 ∷ []) (T.atom (codes "a"))) (T.list_onto (T.int 1 ∷ []) (T.atom (codes "a")))) ≡ came (V.atom (codes "true"))

-- [[1], [2]] < [[1], [3]]
abbrev pub comparisons_34 : Type 0
comparisons_34 = outcome_of records functions (T.binary B.Lt (T.list (T.list (T.int 1 ∷ []) ∷ T.list (T.int 2 ∷ []) ∷ [])) (T.list (T.list (T.int 1 ∷ []) ∷ T.list (T.int 3 ∷ []) ∷ []))) ≡ came (V.atom (codes "true"))

-- "ab" < "b"
abbrev pub comparisons_35 : Type 0
comparisons_35 = outcome_of records functions (T.binary B.Lt (T.text (codes "ab")) (T.text (codes "b"))) ≡ came (V.atom (codes "true"))

-- "abc" == [97, 98, 99]
abbrev pub comparisons_36 : Type 0
comparisons_36 = outcome_of records functions (T.binary B.Eq (T.text (codes "abc")) (T.list (T.int 97 ∷ T.int 98 ∷ T.int 99 ∷ []))) ≡ came (V.atom (codes "true"))

-- #{} == #{}
abbrev pub comparisons_37 : Type 0
comparisons_37 = outcome_of records functions (T.binary B.Eq (T.map_new []) (T.map_new [])) ≡ came (V.atom (codes "true"))

-- #{a => 1} < #{b => 0}
abbrev pub comparisons_38 : Type 0
comparisons_38 = outcome_of records functions (T.binary B.Lt (T.map_new (T.sets (T.atom (codes "a")) (T.int 1) ∷ [])) (T.map_new (T.sets (T.atom (codes "b")) (T.int 0) ∷ []))) ≡ came (V.atom (codes "true"))

-- #{a => 1} < #{a => 2}
abbrev pub comparisons_39 : Type 0
comparisons_39 = outcome_of records functions (T.binary B.Lt (T.map_new (T.sets (T.atom (codes "a")) (T.int 1) ∷ [])) (T.map_new (T.sets (T.atom (codes "a")) (T.int 2) ∷ []))) ≡ came (V.atom (codes "true"))

-- #{b => 1} < #{a => 1, b => 0}
abbrev pub comparisons_40 : Type 0
comparisons_40 = outcome_of records functions (T.binary B.Lt (T.map_new (T.sets (T.atom (codes "b")) (T.int 1) ∷ [])) (T.map_new (T.sets (T.atom (codes "a")) (T.int 1) ∷ T.sets (T.atom (codes "b")) (T.int 0) ∷ []))) ≡ came (V.atom (codes "true"))

-- #{a => 1, b => 2} < #{a => 2, b => 1}
abbrev pub comparisons_41 : Type 0
comparisons_41 = outcome_of records functions (T.binary B.Lt (T.map_new (T.sets (T.atom (codes "a")) (T.int 1) ∷ T.sets (T.atom (codes "b")) (T.int 2) ∷ [])) (T.map_new (T.sets (T.atom (codes "a")) (T.int 2) ∷ T.sets (T.atom (codes "b")) (T.int 1) ∷ []))) ≡ came (V.atom (codes "true"))

-- #{a => 2, c => 1} < #{a => 1, d => 1}
abbrev pub comparisons_42 : Type 0
comparisons_42 = outcome_of records functions (T.binary B.Lt (T.map_new (T.sets (T.atom (codes "a")) (T.int 2) ∷ T.sets (T.atom (codes "c")) (T.int 1) ∷ [])) (T.map_new (T.sets (T.atom (codes "a")) (T.int 1) ∷ T.sets (T.atom (codes "d")) (T.int 1) ∷ []))) ≡ came (V.atom (codes "true"))

-- #{1 => a} < #{a => 1}
abbrev pub comparisons_43 : Type 0
comparisons_43 = outcome_of records functions (T.binary B.Lt (T.map_new (T.sets (T.int 1) (T.atom (codes "a")) ∷ [])) (T.map_new (T.sets (T.atom (codes "a")) (T.int 1) ∷ []))) ≡ came (V.atom (codes "true"))

-- #{2 => a} < #{-1 => a}
abbrev pub comparisons_44 : Type 0
comparisons_44 = outcome_of records functions (T.binary B.Lt (T.map_new (T.sets (T.int 2) (T.atom (codes "a")) ∷ [])) (T.map_new (T.sets (T.unary U.Minus (T.int 1)) (T.atom (codes "a")) ∷ []))) ≡ came (V.atom (codes "false"))

-- #{a => 1, b => 2} == #{b => 2, a => 1}
abbrev pub comparisons_45 : Type 0
comparisons_45 = outcome_of records functions (T.binary B.Eq (T.map_new (T.sets (T.atom (codes "a")) (T.int 1) ∷ T.sets (T.atom (codes "b")) (T.int 2) ∷ [])) (T.map_new (T.sets (T.atom (codes "b")) (T.int 2) ∷ T.sets (T.atom (codes "a")) (T.int 1) ∷ []))) ≡ came (V.atom (codes "true"))

-- #{a => 1} /= #{a => 1}
abbrev pub comparisons_46 : Type 0
comparisons_46 = outcome_of records functions (T.binary B.Ne (T.map_new (T.sets (T.atom (codes "a")) (T.int 1) ∷ [])) (T.map_new (T.sets (T.atom (codes "a")) (T.int 1) ∷ []))) ≡ came (V.atom (codes "false"))

-- #{a => #{b => 1}} =:= #{a => #{b => 1}}
abbrev pub comparisons_47 : Type 0
comparisons_47 = outcome_of records functions (T.binary B.ExactEq (T.map_new (T.sets (T.atom (codes "a")) (T.map_new (T.sets (T.atom (codes "b")) (T.int 1) ∷ [])) ∷ [])) (T.map_new (T.sets (T.atom (codes "a")) (T.map_new (T.sets (T.atom (codes "b")) (T.int 1) ∷ [])) ∷ []))) ≡ came (V.atom (codes "true"))

-- #{1 => a, a => 1} >= #{1 => a, b => 1}
abbrev pub comparisons_48 : Type 0
comparisons_48 = outcome_of records functions (T.binary B.Ge (T.map_new (T.sets (T.int 1) (T.atom (codes "a")) ∷ T.sets (T.atom (codes "a")) (T.int 1) ∷ [])) (T.map_new (T.sets (T.int 1) (T.atom (codes "a")) ∷ T.sets (T.atom (codes "b")) (T.int 1) ∷ []))) ≡ came (V.atom (codes "false"))

-- {a, [1, {2, #{b => []}}]} =:= {a, [1, {2, #{b => []}}]}
abbrev pub comparisons_49 : Type 0
comparisons_49 = outcome_of records functions (T.binary B.ExactEq (T.tuple (T.atom (codes "a") ∷ T.list (T.int 1 ∷ T.tuple (T.int 2 ∷ T.map_new (T.sets (T.atom (codes "b")) (T.list []) ∷ []) ∷ []) ∷ []) ∷ [])) (T.tuple (T.atom (codes "a") ∷ T.list (T.int 1 ∷ T.tuple (T.int 2 ∷ T.map_new (T.sets (T.atom (codes "b")) (T.list []) ∷ []) ∷ []) ∷ []) ∷ []))) ≡ came (V.atom (codes "true"))

-- all of them
abbrev pub Comparisons : Type 0
Comparisons = comparisons_1 × comparisons_2 × comparisons_3 × comparisons_4 × comparisons_5 × comparisons_6 × comparisons_7 × comparisons_8 × comparisons_9 × comparisons_10 × comparisons_11 × comparisons_12 × comparisons_13 × comparisons_14 × comparisons_15 × comparisons_16 × comparisons_17 × comparisons_18 × comparisons_19 × comparisons_20 × comparisons_21 × comparisons_22 × comparisons_23 × comparisons_24 × comparisons_25 × comparisons_26 × comparisons_27 × comparisons_28 × comparisons_29 × comparisons_30 × comparisons_31 × comparisons_32 × comparisons_33 × comparisons_34 × comparisons_35 × comparisons_36 × comparisons_37 × comparisons_38 × comparisons_39 × comparisons_40 × comparisons_41 × comparisons_42 × comparisons_43 × comparisons_44 × comparisons_45 × comparisons_46 × comparisons_47 × comparisons_48 × comparisons_49
