-- Examples of runs: records. Written by expressions.escript.
use Rattle.std.specs.Prelude.{◌≡◌, List, [], ◌∷◌, codes}
use Rattle.erl_tree.specs.declared.form.Function.{Function}
use Rattle.erl_tree.specs.declared.form.RecDefKind.{RecDefKind}
use Rattle.erl_tree.specs.declared.expr.UnaryOp.TheVariants as U
use Rattle.erl_tree.specs.declared.expr.BinaryOp.TheVariants as B
use Rattle.erl_runs.specs.Value.{came}
use Rattle.examples_runs.specs.Trees as T
use Rattle.examples_runs.specs.Patterns as P
use Rattle.examples_runs.specs.Outcomes as V
use Rattle.examples_runs.specs.Outcomes.{outcome_of}

-- -record(point, {x, y = 0}).
-- -record(all, {int = 7, minus = -7, char = $a, atom = b, text = "ab", pair = {1, [c]}, none, empty = {}}).
-- -record(empty, {}).
-- x_of(P) -> P#point.x.

abbrev pub records : List RecDefKind
records = T.record_of (codes "point") (T.declared (codes "x") ∷ T.declared_with (codes "y") (T.int 0) ∷ []) ∷ T.record_of (codes "all") (T.declared_with (codes "int") (T.int 7) ∷ T.declared_with (codes "minus") (T.unary U.Minus (T.int 7)) ∷ T.declared_with (codes "char") (T.char 97) ∷ T.declared_with (codes "atom") (T.atom (codes "b")) ∷ T.declared_with (codes "text") (T.text (codes "ab")) ∷ T.declared_with (codes "pair") (T.tuple (T.int 1 ∷ T.list (T.atom (codes "c") ∷ []) ∷ [])) ∷ T.declared (codes "none") ∷ T.declared_with (codes "empty") (T.tuple []) ∷ []) ∷ T.record_of (codes "empty") [] ∷ []

abbrev pub functions : List Function
functions = T.function (codes "x_of") (T.clause (P.var (codes "P") ∷ []) (T.value (T.rec_get (T.var (codes "P")) (codes "point") (codes "x")) ∷ []) ∷ []) ∷ []

-- #point{}
abbrev pub records_made_1 : Type 0
records_made_1 = outcome_of records functions (T.rec_new (codes "point") []) ≡ came (V.tuple (V.atom (codes "point") ∷ V.atom (codes "undefined") ∷ V.int 0 ∷ []))

-- #point{x = 1}
abbrev pub records_made_2 : Type 0
records_made_2 = outcome_of records functions (T.rec_new (codes "point") (T.field (codes "x") (T.int 1) ∷ [])) ≡ came (V.tuple (V.atom (codes "point") ∷ V.int 1 ∷ V.int 0 ∷ []))

-- #point{y = 2, x = 1}
abbrev pub records_made_3 : Type 0
records_made_3 = outcome_of records functions (T.rec_new (codes "point") (T.field (codes "y") (T.int 2) ∷ T.field (codes "x") (T.int 1) ∷ [])) ≡ came (V.tuple (V.atom (codes "point") ∷ V.int 1 ∷ V.int 2 ∷ []))

-- #all{}
abbrev pub records_made_4 : Type 0
records_made_4 = outcome_of records functions (T.rec_new (codes "all") []) ≡ came (V.tuple (V.atom (codes "all") ∷ V.int 7 ∷ V.minus 7 ∷ V.int 97 ∷ V.atom (codes "b") ∷ V.list (V.int 97 ∷ V.int 98 ∷ []) ∷ V.tuple (V.int 1 ∷ V.list (V.atom (codes "c") ∷ []) ∷ []) ∷ V.atom (codes "undefined") ∷ V.tuple [] ∷ []))

-- #all{none = 1}
abbrev pub records_made_5 : Type 0
records_made_5 = outcome_of records functions (T.rec_new (codes "all") (T.field (codes "none") (T.int 1) ∷ [])) ≡ came (V.tuple (V.atom (codes "all") ∷ V.int 7 ∷ V.minus 7 ∷ V.int 97 ∷ V.atom (codes "b") ∷ V.list (V.int 97 ∷ V.int 98 ∷ []) ∷ V.tuple (V.int 1 ∷ V.list (V.atom (codes "c") ∷ []) ∷ []) ∷ V.int 1 ∷ V.tuple [] ∷ []))

-- #empty{}
abbrev pub records_made_6 : Type 0
records_made_6 = outcome_of records functions (T.rec_new (codes "empty") []) ≡ came (V.tuple (V.atom (codes "empty") ∷ []))

-- #point{x = 1}#point.x
abbrev pub records_made_7 : Type 0
records_made_7 = outcome_of records functions (T.rec_get (T.rec_new (codes "point") (T.field (codes "x") (T.int 1) ∷ [])) (codes "point") (codes "x")) ≡ came (V.int 1)

-- #point{}#point.y
abbrev pub records_made_8 : Type 0
records_made_8 = outcome_of records functions (T.rec_get (T.rec_new (codes "point") []) (codes "point") (codes "y")) ≡ came (V.int 0)

-- (#point{x = {3}})#point.x
abbrev pub records_made_9 : Type 0
records_made_9 = outcome_of records functions (T.rec_get (T.paren (T.rec_new (codes "point") (T.field (codes "x") (T.tuple (T.int 3 ∷ [])) ∷ []))) (codes "point") (codes "x")) ≡ came (V.tuple (V.int 3 ∷ []))

-- #point{x = 1}#point{y = 5}
abbrev pub records_made_10 : Type 0
records_made_10 = outcome_of records functions (T.rec_change (T.rec_new (codes "point") (T.field (codes "x") (T.int 1) ∷ [])) (codes "point") (T.field (codes "y") (T.int 5) ∷ [])) ≡ came (V.tuple (V.atom (codes "point") ∷ V.int 1 ∷ V.int 5 ∷ []))

-- #point{x = 1}#point{x = 2, y = 3}
abbrev pub records_made_11 : Type 0
records_made_11 = outcome_of records functions (T.rec_change (T.rec_new (codes "point") (T.field (codes "x") (T.int 1) ∷ [])) (codes "point") (T.field (codes "x") (T.int 2) ∷ T.field (codes "y") (T.int 3) ∷ [])) ≡ came (V.tuple (V.atom (codes "point") ∷ V.int 2 ∷ V.int 3 ∷ []))

-- #point{x = 1}#point{}
abbrev pub records_made_12 : Type 0
records_made_12 = outcome_of records functions (T.rec_change (T.rec_new (codes "point") (T.field (codes "x") (T.int 1) ∷ [])) (codes "point") []) ≡ came (V.tuple (V.atom (codes "point") ∷ V.int 1 ∷ V.int 0 ∷ []))

-- {point, 1, 2}#point.y
abbrev pub records_made_13 : Type 0
records_made_13 = outcome_of records functions (T.rec_get (T.tuple (T.atom (codes "point") ∷ T.int 1 ∷ T.int 2 ∷ [])) (codes "point") (codes "y")) ≡ came (V.int 2)

-- {point, 1, 2}#point{x = a}
abbrev pub records_made_14 : Type 0
records_made_14 = outcome_of records functions (T.rec_change (T.tuple (T.atom (codes "point") ∷ T.int 1 ∷ T.int 2 ∷ [])) (codes "point") (T.field (codes "x") (T.atom (codes "a")) ∷ [])) ≡ came (V.tuple (V.atom (codes "point") ∷ V.atom (codes "a") ∷ V.int 2 ∷ []))

-- #point{x = 1} =:= {point, 1, 0}
abbrev pub records_made_15 : Type 0
records_made_15 = outcome_of records functions (T.binary B.ExactEq (T.rec_new (codes "point") (T.field (codes "x") (T.int 1) ∷ [])) (T.tuple (T.atom (codes "point") ∷ T.int 1 ∷ T.int 0 ∷ []))) ≡ came (V.atom (codes "true"))

-- begin P = #point{x = 1}, Q = P#point{x = P#point.x + 1}, {P, Q, Q#point.x} end
abbrev pub records_made_16 : Type 0
records_made_16 = outcome_of records functions (T.begin_of (T.match (P.var (codes "P")) (T.rec_new (codes "point") (T.field (codes "x") (T.int 1) ∷ [])) ∷ T.match (P.var (codes "Q")) (T.rec_change (T.var (codes "P")) (codes "point") (T.field (codes "x") (T.binary B.Add (T.rec_get (T.var (codes "P")) (codes "point") (codes "x")) (T.int 1)) ∷ [])) ∷ T.value (T.tuple (T.var (codes "P") ∷ T.var (codes "Q") ∷ T.rec_get (T.var (codes "Q")) (codes "point") (codes "x") ∷ [])) ∷ [])) ≡ came (V.tuple (V.tuple (V.atom (codes "point") ∷ V.int 1 ∷ V.int 0 ∷ []) ∷ V.tuple (V.atom (codes "point") ∷ V.int 2 ∷ V.int 0 ∷ []) ∷ V.int 2 ∷ []))

-- #point{x = #point{x = 1}}#point.x#point.x
abbrev pub records_made_17 : Type 0
records_made_17 = outcome_of records functions (T.rec_get (T.rec_get (T.rec_new (codes "point") (T.field (codes "x") (T.rec_new (codes "point") (T.field (codes "x") (T.int 1) ∷ [])) ∷ [])) (codes "point") (codes "x")) (codes "point") (codes "x")) ≡ came (V.int 1)

-- case #point{x = 1, y = 2} of #point{y = Y} -> Y end
abbrev pub records_made_18 : Type 0
records_made_18 = outcome_of records functions (T.case_of (T.rec_new (codes "point") (T.field (codes "x") (T.int 1) ∷ T.field (codes "y") (T.int 2) ∷ [])) (T.clause (P.rec (codes "point") (P.field (codes "y") (P.var (codes "Y")) ∷ []) ∷ []) (T.value (T.var (codes "Y")) ∷ []) ∷ [])) ≡ came (V.int 2)

-- case {point, 1, 2} of #point{x = 2} -> no; #point{x = X, y = Y} -> {X, Y} end
abbrev pub records_made_19 : Type 0
records_made_19 = outcome_of records functions (T.case_of (T.tuple (T.atom (codes "point") ∷ T.int 1 ∷ T.int 2 ∷ [])) (T.clause (P.rec (codes "point") (P.field (codes "x") (P.int 2) ∷ []) ∷ []) (T.value (T.atom (codes "no")) ∷ []) ∷ T.clause (P.rec (codes "point") (P.field (codes "x") (P.var (codes "X")) ∷ P.field (codes "y") (P.var (codes "Y")) ∷ []) ∷ []) (T.value (T.tuple (T.var (codes "X") ∷ T.var (codes "Y") ∷ [])) ∷ []) ∷ [])) ≡ came (V.tuple (V.int 1 ∷ V.int 2 ∷ []))

-- case {point, 1} of #point{} -> yes; _ -> no end
abbrev pub records_made_20 : Type 0
records_made_20 = outcome_of records functions (T.case_of (T.tuple (T.atom (codes "point") ∷ T.int 1 ∷ [])) (T.clause (P.rec (codes "point") [] ∷ []) (T.value (T.atom (codes "yes")) ∷ []) ∷ T.clause (P.var (codes "_") ∷ []) (T.value (T.atom (codes "no")) ∷ []) ∷ [])) ≡ came (V.atom (codes "no"))

-- case {dot, 1, 2} of #point{} -> yes; _ -> no end
abbrev pub records_made_21 : Type 0
records_made_21 = outcome_of records functions (T.case_of (T.tuple (T.atom (codes "dot") ∷ T.int 1 ∷ T.int 2 ∷ [])) (T.clause (P.rec (codes "point") [] ∷ []) (T.value (T.atom (codes "yes")) ∷ []) ∷ T.clause (P.var (codes "_") ∷ []) (T.value (T.atom (codes "no")) ∷ []) ∷ [])) ≡ came (V.atom (codes "no"))

-- case point of #point{} -> yes; _ -> no end
abbrev pub records_made_22 : Type 0
records_made_22 = outcome_of records functions (T.case_of (T.atom (codes "point")) (T.clause (P.rec (codes "point") [] ∷ []) (T.value (T.atom (codes "yes")) ∷ []) ∷ T.clause (P.var (codes "_") ∷ []) (T.value (T.atom (codes "no")) ∷ []) ∷ [])) ≡ came (V.atom (codes "no"))

-- case #empty{} of #point{} -> point; #empty{} -> empty end
abbrev pub records_made_23 : Type 0
records_made_23 = outcome_of records functions (T.case_of (T.rec_new (codes "empty") []) (T.clause (P.rec (codes "point") [] ∷ []) (T.value (T.atom (codes "point")) ∷ []) ∷ T.clause (P.rec (codes "empty") [] ∷ []) (T.value (T.atom (codes "empty")) ∷ []) ∷ [])) ≡ came (V.atom (codes "empty"))

-- case #point{x = 1, y = 1} of #point{x = X, y = X} -> same; #point{} -> other end
abbrev pub records_made_24 : Type 0
records_made_24 = outcome_of records functions (T.case_of (T.rec_new (codes "point") (T.field (codes "x") (T.int 1) ∷ T.field (codes "y") (T.int 1) ∷ [])) (T.clause (P.rec (codes "point") (P.field (codes "x") (P.var (codes "X")) ∷ P.field (codes "y") (P.var (codes "X")) ∷ []) ∷ []) (T.value (T.atom (codes "same")) ∷ []) ∷ T.clause (P.rec (codes "point") [] ∷ []) (T.value (T.atom (codes "other")) ∷ []) ∷ [])) ≡ came (V.atom (codes "same"))

-- case a of P when P#point.x > 0 -> yes; _ -> no end
abbrev pub records_made_25 : Type 0
records_made_25 = outcome_of records functions (T.case_of (T.atom (codes "a")) (T.clause_when (P.var (codes "P") ∷ []) ((T.binary B.Gt (T.rec_get (T.var (codes "P")) (codes "point") (codes "x")) (T.int 0) ∷ []) ∷ []) (T.value (T.atom (codes "yes")) ∷ []) ∷ T.clause (P.var (codes "_") ∷ []) (T.value (T.atom (codes "no")) ∷ []) ∷ [])) ≡ came (V.atom (codes "no"))

-- case #point{x = 1} of P when P#point.x > 0 -> yes; _ -> no end
abbrev pub records_made_26 : Type 0
records_made_26 = outcome_of records functions (T.case_of (T.rec_new (codes "point") (T.field (codes "x") (T.int 1) ∷ [])) (T.clause_when (P.var (codes "P") ∷ []) ((T.binary B.Gt (T.rec_get (T.var (codes "P")) (codes "point") (codes "x")) (T.int 0) ∷ []) ∷ []) (T.value (T.atom (codes "yes")) ∷ []) ∷ T.clause (P.var (codes "_") ∷ []) (T.value (T.atom (codes "no")) ∷ []) ∷ [])) ≡ came (V.atom (codes "yes"))

-- x_of(#point{x = a})
abbrev pub records_made_27 : Type 0
records_made_27 = outcome_of records functions (T.call (codes "x_of") (T.rec_new (codes "point") (T.field (codes "x") (T.atom (codes "a")) ∷ []) ∷ [])) ≡ came (V.atom (codes "a"))

-- [P || P <- [#point{x = 1}, a, #point{x = 2}], P#point.x == 1]
abbrev pub records_made_28 : Type 0
records_made_28 = outcome_of records functions (T.comprehension (T.var (codes "P")) (T.generator (P.var (codes "P")) (T.list (T.rec_new (codes "point") (T.field (codes "x") (T.int 1) ∷ []) ∷ T.atom (codes "a") ∷ T.rec_new (codes "point") (T.field (codes "x") (T.int 2) ∷ []) ∷ [])) ∷ T.filter (T.binary B.Eq (T.rec_get (T.var (codes "P")) (codes "point") (codes "x")) (T.int 1)) ∷ [])) ≡ came (V.list (V.tuple (V.atom (codes "point") ∷ V.int 1 ∷ V.int 0 ∷ []) ∷ []))

-- [P || P <- [#point{x = 1}, a], P#point.x == 2 orelse true]
abbrev pub records_made_29 : Type 0
records_made_29 = outcome_of records functions (T.comprehension (T.var (codes "P")) (T.generator (P.var (codes "P")) (T.list (T.rec_new (codes "point") (T.field (codes "x") (T.int 1) ∷ []) ∷ T.atom (codes "a") ∷ [])) ∷ T.filter (T.binary B.Orelse (T.binary B.Eq (T.rec_get (T.var (codes "P")) (codes "point") (codes "x")) (T.int 2)) (T.atom (codes "true"))) ∷ [])) ≡ came (V.list (V.tuple (V.atom (codes "point") ∷ V.int 1 ∷ V.int 0 ∷ []) ∷ []))

-- case a of P when not (P#point.x == 1) -> yes; P when true orelse P#point.x == 1 -> lazy; _ -> no end
abbrev pub records_made_30 : Type 0
records_made_30 = outcome_of records functions (T.case_of (T.atom (codes "a")) (T.clause_when (P.var (codes "P") ∷ []) ((T.unary U.Not (T.paren (T.binary B.Eq (T.rec_get (T.var (codes "P")) (codes "point") (codes "x")) (T.int 1))) ∷ []) ∷ []) (T.value (T.atom (codes "yes")) ∷ []) ∷ T.clause_when (P.var (codes "P") ∷ []) ((T.binary B.Orelse (T.atom (codes "true")) (T.binary B.Eq (T.rec_get (T.var (codes "P")) (codes "point") (codes "x")) (T.int 1)) ∷ []) ∷ []) (T.value (T.atom (codes "lazy")) ∷ []) ∷ T.clause (P.var (codes "_") ∷ []) (T.value (T.atom (codes "no")) ∷ []) ∷ [])) ≡ came (V.atom (codes "lazy"))

-- [X || #point{x = X} <- [#point{x = 1}, a, #point{x = 2}, #empty{}]]
abbrev pub records_made_31 : Type 0
records_made_31 = outcome_of records functions (T.comprehension (T.var (codes "X")) (T.generator (P.rec (codes "point") (P.field (codes "x") (P.var (codes "X")) ∷ [])) (T.list (T.rec_new (codes "point") (T.field (codes "x") (T.int 1) ∷ []) ∷ T.atom (codes "a") ∷ T.rec_new (codes "point") (T.field (codes "x") (T.int 2) ∷ []) ∷ T.rec_new (codes "empty") [] ∷ [])) ∷ [])) ≡ came (V.list (V.int 1 ∷ V.int 2 ∷ []))

-- all of them
abbrev pub RecordsMade : Type 0
RecordsMade = records_made_1 × records_made_2 × records_made_3 × records_made_4 × records_made_5 × records_made_6 × records_made_7 × records_made_8 × records_made_9 × records_made_10 × records_made_11 × records_made_12 × records_made_13 × records_made_14 × records_made_15 × records_made_16 × records_made_17 × records_made_18 × records_made_19 × records_made_20 × records_made_21 × records_made_22 × records_made_23 × records_made_24 × records_made_25 × records_made_26 × records_made_27 × records_made_28 × records_made_29 × records_made_30 × records_made_31
