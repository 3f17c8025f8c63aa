-- Examples of runs: patterns. Written by expressions.escript.
use Rattle.std.specs.Prelude.{◌≡◌, List, [], ◌∷◌, codes}
use Rattle.erl_tree.specs.declared.form.Function.{Function}
use Rattle.erl_tree.specs.declared.form.RecDefKind.{RecDefKind}
use Rattle.erl_tree.specs.declared.expr.UnaryOp.TheVariants as U
use Rattle.erl_tree.specs.declared.expr.BinaryOp.TheVariants as B
use Rattle.erl_runs.specs.Value.{came}
use Rattle.examples_runs.specs.Trees as T
use Rattle.examples_runs.specs.Patterns as P
use Rattle.examples_runs.specs.Outcomes as V
use Rattle.examples_runs.specs.Outcomes.{outcome_of}

abbrev pub records : List RecDefKind
records = []

abbrev pub functions : List Function
functions = []

-- case -1 of 1 -> a; -1 -> b end
abbrev pub matching_1 : Type 0
matching_1 = outcome_of records functions (T.case_of (T.unary U.Minus (T.int 1)) (T.clause (P.int 1 ∷ []) (T.value (T.atom (codes "a")) ∷ []) ∷ T.clause (P.minus 1 ∷ []) (T.value (T.atom (codes "b")) ∷ []) ∷ [])) ≡ came (V.atom (codes "b"))

-- case [] of [_ | _] -> cons; [] -> nil end
abbrev pub matching_2 : Type 0
matching_2 = outcome_of records functions (T.case_of (T.list []) (T.clause (P.list_onto (P.var (codes "_") ∷ []) (P.var (codes "_")) ∷ []) (T.value (T.atom (codes "cons")) ∷ []) ∷ T.clause (P.list [] ∷ []) (T.value (T.atom (codes "nil")) ∷ []) ∷ [])) ≡ came (V.atom (codes "nil"))

-- case [1] of [] -> nil; [H | T] -> {H, T} end
abbrev pub matching_3 : Type 0
matching_3 = outcome_of records functions (T.case_of (T.list (T.int 1 ∷ [])) (T.clause (P.list [] ∷ []) (T.value (T.atom (codes "nil")) ∷ []) ∷ T.clause (P.list_onto (P.var (codes "H") ∷ []) (P.var (codes "T")) ∷ []) (T.value (T.tuple (T.var (codes "H") ∷ T.var (codes "T") ∷ [])) ∷ []) ∷ [])) ≡ came (V.tuple (V.int 1 ∷ V.list [] ∷ []))

-- case [1, 2] of [A] -> A; [A, B] -> {A, B} end
abbrev pub matching_4 : Type 0
matching_4 = outcome_of records functions (T.case_of (T.list (T.int 1 ∷ T.int 2 ∷ [])) (T.clause (P.list (P.var (codes "A") ∷ []) ∷ []) (T.value (T.var (codes "A")) ∷ []) ∷ T.clause (P.list (P.var (codes "A") ∷ P.var (codes "B") ∷ []) ∷ []) (T.value (T.tuple (T.var (codes "A") ∷ T.var (codes "B") ∷ [])) ∷ []) ∷ [])) ≡ came (V.tuple (V.int 1 ∷ V.int 2 ∷ []))

-- case [1 | 2] of [A] -> A; [A | B] -> {A, B} end
abbrev pub matching_5 : Type 0
matching_5 = outcome_of records functions (T.case_of (T.list_onto (T.int 1 ∷ []) (T.int 2)) (T.clause (P.list (P.var (codes "A") ∷ []) ∷ []) (T.value (T.var (codes "A")) ∷ []) ∷ T.clause (P.list_onto (P.var (codes "A") ∷ []) (P.var (codes "B")) ∷ []) (T.value (T.tuple (T.var (codes "A") ∷ T.var (codes "B") ∷ [])) ∷ []) ∷ [])) ≡ came (V.tuple (V.int 1 ∷ V.int 2 ∷ []))

-- case [1, 2, 3] of [A, B | C] -> {A, B, C} end
abbrev pub matching_6 : Type 0
matching_6 = outcome_of records functions (T.case_of (T.list (T.int 1 ∷ T.int 2 ∷ T.int 3 ∷ [])) (T.clause (P.list_onto (P.var (codes "A") ∷ P.var (codes "B") ∷ []) (P.var (codes "C")) ∷ []) (T.value (T.tuple (T.var (codes "A") ∷ T.var (codes "B") ∷ T.var (codes "C") ∷ [])) ∷ []) ∷ [])) ≡ came (V.tuple (V.int 1 ∷ V.int 2 ∷ V.list (V.int 3 ∷ []) ∷ []))

-- case [1] of [_, _ | _] -> two; _ -> fewer end
abbrev pub matching_7 : Type 0
matching_7 = outcome_of records functions (T.case_of (T.list (T.int 1 ∷ [])) (T.clause (P.list_onto (P.var (codes "_") ∷ P.var (codes "_") ∷ []) (P.var (codes "_")) ∷ []) (T.value (T.atom (codes "two")) ∷ []) ∷ T.clause (P.var (codes "_") ∷ []) (T.value (T.atom (codes "fewer")) ∷ []) ∷ [])) ≡ came (V.atom (codes "fewer"))

-- case {} of {_} -> one; {} -> none end
abbrev pub matching_8 : Type 0
matching_8 = outcome_of records functions (T.case_of (T.tuple []) (T.clause (P.tuple (P.var (codes "_") ∷ []) ∷ []) (T.value (T.atom (codes "one")) ∷ []) ∷ T.clause (P.tuple [] ∷ []) (T.value (T.atom (codes "none")) ∷ []) ∷ [])) ≡ came (V.atom (codes "none"))

-- case {1, {2, [3]}} of {A, {B, [C]}} -> A + B + C end
abbrev pub matching_9 : Type 0
matching_9 = outcome_of records functions (T.case_of (T.tuple (T.int 1 ∷ T.tuple (T.int 2 ∷ T.list (T.int 3 ∷ []) ∷ []) ∷ [])) (T.clause (P.tuple (P.var (codes "A") ∷ P.tuple (P.var (codes "B") ∷ P.list (P.var (codes "C") ∷ []) ∷ []) ∷ []) ∷ []) (T.value (T.binary B.Add (T.binary B.Add (T.var (codes "A")) (T.var (codes "B"))) (T.var (codes "C"))) ∷ []) ∷ [])) ≡ came (V.int 6)

-- case [1, 2] of {_, _} -> tuple; _ -> other end
abbrev pub matching_10 : Type 0
matching_10 = outcome_of records functions (T.case_of (T.list (T.int 1 ∷ T.int 2 ∷ [])) (T.clause (P.tuple (P.var (codes "_") ∷ P.var (codes "_") ∷ []) ∷ []) (T.value (T.atom (codes "tuple")) ∷ []) ∷ T.clause (P.var (codes "_") ∷ []) (T.value (T.atom (codes "other")) ∷ []) ∷ [])) ≡ came (V.atom (codes "other"))

-- case 1 of (X) -> X end
abbrev pub matching_11 : Type 0
matching_11 = outcome_of records functions (T.case_of (T.int 1) (T.clause (P.paren (P.var (codes "X")) ∷ []) (T.value (T.var (codes "X")) ∷ []) ∷ [])) ≡ came (V.int 1)

-- case {1, 2} of ({(A), B}) -> {B, A} end
abbrev pub matching_12 : Type 0
matching_12 = outcome_of records functions (T.case_of (T.tuple (T.int 1 ∷ T.int 2 ∷ [])) (T.clause (P.paren (P.tuple (P.paren (P.var (codes "A")) ∷ P.var (codes "B") ∷ [])) ∷ []) (T.value (T.tuple (T.var (codes "B") ∷ T.var (codes "A") ∷ [])) ∷ []) ∷ [])) ≡ came (V.tuple (V.int 2 ∷ V.int 1 ∷ []))

-- case "a" of [97] -> yes end
abbrev pub matching_13 : Type 0
matching_13 = outcome_of records functions (T.case_of (T.text (codes "a")) (T.clause (P.list (P.int 97 ∷ []) ∷ []) (T.value (T.atom (codes "yes")) ∷ []) ∷ [])) ≡ came (V.atom (codes "yes"))

-- case [97, 98] of "ab" -> yes end
abbrev pub matching_14 : Type 0
matching_14 = outcome_of records functions (T.case_of (T.list (T.int 97 ∷ T.int 98 ∷ [])) (T.clause (P.text (codes "ab") ∷ []) (T.value (T.atom (codes "yes")) ∷ []) ∷ [])) ≡ came (V.atom (codes "yes"))

-- case {1, 2} of {A, _} = P -> {A, P} end
abbrev pub matching_15 : Type 0
matching_15 = outcome_of records functions (T.case_of (T.tuple (T.int 1 ∷ T.int 2 ∷ [])) (T.clause (P.alias (P.tuple (P.var (codes "A") ∷ P.var (codes "_") ∷ [])) (P.var (codes "P")) ∷ []) (T.value (T.tuple (T.var (codes "A") ∷ T.var (codes "P") ∷ [])) ∷ []) ∷ [])) ≡ came (V.tuple (V.int 1 ∷ V.tuple (V.int 1 ∷ V.int 2 ∷ []) ∷ []))

-- case {1, 2} of {A, _} = {_, B} -> {B, A} end
abbrev pub matching_16 : Type 0
matching_16 = outcome_of records functions (T.case_of (T.tuple (T.int 1 ∷ T.int 2 ∷ [])) (T.clause (P.alias (P.tuple (P.var (codes "A") ∷ P.var (codes "_") ∷ [])) (P.tuple (P.var (codes "_") ∷ P.var (codes "B") ∷ [])) ∷ []) (T.value (T.tuple (T.var (codes "B") ∷ T.var (codes "A") ∷ [])) ∷ []) ∷ [])) ≡ came (V.tuple (V.int 2 ∷ V.int 1 ∷ []))

-- case [1, 2] of [A | _] = [_, B] -> A - B end
abbrev pub matching_17 : Type 0
matching_17 = outcome_of records functions (T.case_of (T.list (T.int 1 ∷ T.int 2 ∷ [])) (T.clause (P.alias (P.list_onto (P.var (codes "A") ∷ []) (P.var (codes "_"))) (P.list (P.var (codes "_") ∷ P.var (codes "B") ∷ [])) ∷ []) (T.value (T.binary B.Sub (T.var (codes "A")) (T.var (codes "B"))) ∷ []) ∷ [])) ≡ came (V.minus 1)

-- case #{a => 1} of #{a := X} -> X end
abbrev pub matching_18 : Type 0
matching_18 = outcome_of records functions (T.case_of (T.map_new (T.sets (T.atom (codes "a")) (T.int 1) ∷ [])) (T.clause (P.map (P.at_atom (codes "a") (P.var (codes "X")) ∷ []) ∷ []) (T.value (T.var (codes "X")) ∷ []) ∷ [])) ≡ came (V.int 1)

-- case #{a => 1, b => 2} of #{} -> any end
abbrev pub matching_19 : Type 0
matching_19 = outcome_of records functions (T.case_of (T.map_new (T.sets (T.atom (codes "a")) (T.int 1) ∷ T.sets (T.atom (codes "b")) (T.int 2) ∷ [])) (T.clause (P.map [] ∷ []) (T.value (T.atom (codes "any")) ∷ []) ∷ [])) ≡ came (V.atom (codes "any"))

-- case #{a => 1} of #{b := _} -> b; #{a := _} -> a end
abbrev pub matching_20 : Type 0
matching_20 = outcome_of records functions (T.case_of (T.map_new (T.sets (T.atom (codes "a")) (T.int 1) ∷ [])) (T.clause (P.map (P.at_atom (codes "b") (P.var (codes "_")) ∷ []) ∷ []) (T.value (T.atom (codes "b")) ∷ []) ∷ T.clause (P.map (P.at_atom (codes "a") (P.var (codes "_")) ∷ []) ∷ []) (T.value (T.atom (codes "a")) ∷ []) ∷ [])) ≡ came (V.atom (codes "a"))

-- case #{a => 1, b => 2} of #{b := X, a := Y} -> {X, Y} end
abbrev pub matching_21 : Type 0
matching_21 = outcome_of records functions (T.case_of (T.map_new (T.sets (T.atom (codes "a")) (T.int 1) ∷ T.sets (T.atom (codes "b")) (T.int 2) ∷ [])) (T.clause (P.map (P.at_atom (codes "b") (P.var (codes "X")) ∷ P.at_atom (codes "a") (P.var (codes "Y")) ∷ []) ∷ []) (T.value (T.tuple (T.var (codes "X") ∷ T.var (codes "Y") ∷ [])) ∷ []) ∷ [])) ≡ came (V.tuple (V.int 2 ∷ V.int 1 ∷ []))

-- case #{a => 1, b => 2} of #{b := X, a := X} -> same; _ -> other end
abbrev pub matching_22 : Type 0
matching_22 = outcome_of records functions (T.case_of (T.map_new (T.sets (T.atom (codes "a")) (T.int 1) ∷ T.sets (T.atom (codes "b")) (T.int 2) ∷ [])) (T.clause (P.map (P.at_atom (codes "b") (P.var (codes "X")) ∷ P.at_atom (codes "a") (P.var (codes "X")) ∷ []) ∷ []) (T.value (T.atom (codes "same")) ∷ []) ∷ T.clause (P.var (codes "_") ∷ []) (T.value (T.atom (codes "other")) ∷ []) ∷ [])) ≡ came (V.atom (codes "other"))

-- case #{1 => a, -1 => b, $a => c} of #{1 := A, -1 := B, $a := C} -> {A, B, C} end
abbrev pub matching_23 : Type 0
matching_23 = outcome_of records functions (T.case_of (T.map_new (T.sets (T.int 1) (T.atom (codes "a")) ∷ T.sets (T.unary U.Minus (T.int 1)) (T.atom (codes "b")) ∷ T.sets (T.char 97) (T.atom (codes "c")) ∷ [])) (T.clause (P.map (P.at_int 1 (P.var (codes "A")) ∷ P.at_minus 1 (P.var (codes "B")) ∷ P.at_char 97 (P.var (codes "C")) ∷ []) ∷ []) (T.value (T.tuple (T.var (codes "A") ∷ T.var (codes "B") ∷ T.var (codes "C") ∷ [])) ∷ []) ∷ [])) ≡ came (V.tuple (V.atom (codes "a") ∷ V.atom (codes "b") ∷ V.atom (codes "c") ∷ []))

-- case #{a => {1, [2]}} of #{a := {X, [Y]}} -> {X, Y} end
abbrev pub matching_24 : Type 0
matching_24 = outcome_of records functions (T.case_of (T.map_new (T.sets (T.atom (codes "a")) (T.tuple (T.int 1 ∷ T.list (T.int 2 ∷ []) ∷ [])) ∷ [])) (T.clause (P.map (P.at_atom (codes "a") (P.tuple (P.var (codes "X") ∷ P.list (P.var (codes "Y") ∷ []) ∷ [])) ∷ []) ∷ []) (T.value (T.tuple (T.var (codes "X") ∷ T.var (codes "Y") ∷ [])) ∷ []) ∷ [])) ≡ came (V.tuple (V.int 1 ∷ V.int 2 ∷ []))

-- case #{a => #{b => 1}} of #{a := #{b := X}} -> X end
abbrev pub matching_25 : Type 0
matching_25 = outcome_of records functions (T.case_of (T.map_new (T.sets (T.atom (codes "a")) (T.map_new (T.sets (T.atom (codes "b")) (T.int 1) ∷ [])) ∷ [])) (T.clause (P.map (P.at_atom (codes "a") (P.map (P.at_atom (codes "b") (P.var (codes "X")) ∷ [])) ∷ []) ∷ []) (T.value (T.var (codes "X")) ∷ []) ∷ [])) ≡ came (V.int 1)

-- case #{a => 1, b => 1} of #{a := X} = #{b := X} -> X end
abbrev pub matching_26 : Type 0
matching_26 = outcome_of records functions (T.case_of (T.map_new (T.sets (T.atom (codes "a")) (T.int 1) ∷ T.sets (T.atom (codes "b")) (T.int 1) ∷ [])) (T.clause (P.alias (P.map (P.at_atom (codes "a") (P.var (codes "X")) ∷ [])) (P.map (P.at_atom (codes "b") (P.var (codes "X")) ∷ [])) ∷ []) (T.value (T.var (codes "X")) ∷ []) ∷ [])) ≡ came (V.int 1)

-- case a of #{} -> map; _ -> other end
abbrev pub matching_27 : Type 0
matching_27 = outcome_of records functions (T.case_of (T.atom (codes "a")) (T.clause (P.map [] ∷ []) (T.value (T.atom (codes "map")) ∷ []) ∷ T.clause (P.var (codes "_") ∷ []) (T.value (T.atom (codes "other")) ∷ []) ∷ [])) ≡ came (V.atom (codes "other"))

-- case #{} of {} -> tuple; [] -> list; #{a := _} -> a; #{} -> map end
abbrev pub matching_28 : Type 0
matching_28 = outcome_of records functions (T.case_of (T.map_new []) (T.clause (P.tuple [] ∷ []) (T.value (T.atom (codes "tuple")) ∷ []) ∷ T.clause (P.list [] ∷ []) (T.value (T.atom (codes "list")) ∷ []) ∷ T.clause (P.map (P.at_atom (codes "a") (P.var (codes "_")) ∷ []) ∷ []) (T.value (T.atom (codes "a")) ∷ []) ∷ T.clause (P.map [] ∷ []) (T.value (T.atom (codes "map")) ∷ []) ∷ [])) ≡ came (V.atom (codes "map"))

-- case {true, false} of {false, _} -> 1; {true, true} -> 2; {true, false} -> 3 end
abbrev pub matching_29 : Type 0
matching_29 = outcome_of records functions (T.case_of (T.tuple (T.atom (codes "true") ∷ T.atom (codes "false") ∷ [])) (T.clause (P.tuple (P.atom (codes "false") ∷ P.var (codes "_") ∷ []) ∷ []) (T.value (T.int 1) ∷ []) ∷ T.clause (P.tuple (P.atom (codes "true") ∷ P.atom (codes "true") ∷ []) ∷ []) (T.value (T.int 2) ∷ []) ∷ T.clause (P.tuple (P.atom (codes "true") ∷ P.atom (codes "false") ∷ []) ∷ []) (T.value (T.int 3) ∷ []) ∷ [])) ≡ came (V.int 3)

-- begin X = 2, case #{a => 1, b => 2} of #{a := X} -> a; #{b := X} -> b end end
abbrev pub matching_30 : Type 0
matching_30 = outcome_of records functions (T.begin_of (T.match (P.var (codes "X")) (T.int 2) ∷ T.value (T.case_of (T.map_new (T.sets (T.atom (codes "a")) (T.int 1) ∷ T.sets (T.atom (codes "b")) (T.int 2) ∷ [])) (T.clause (P.map (P.at_atom (codes "a") (P.var (codes "X")) ∷ []) ∷ []) (T.value (T.atom (codes "a")) ∷ []) ∷ T.clause (P.map (P.at_atom (codes "b") (P.var (codes "X")) ∷ []) ∷ []) (T.value (T.atom (codes "b")) ∷ []) ∷ [])) ∷ [])) ≡ came (V.atom (codes "b"))

-- all of them
abbrev pub Matching : Type 0
Matching = matching_1 × matching_2 × matching_3 × matching_4 × matching_5 × matching_6 × matching_7 × matching_8 × matching_9 × matching_10 × matching_11 × matching_12 × matching_13 × matching_14 × matching_15 × matching_16 × matching_17 × matching_18 × matching_19 × matching_20 × matching_21 × matching_22 × matching_23 × matching_24 × matching_25 × matching_26 × matching_27 × matching_28 × matching_29 × matching_30
