-- Examples of runs: case expressions. Written by expressions.escript.
use Rattle.std.specs.Prelude.{◌≡◌, List, [], ◌∷◌, codes}
use Rattle.erl_tree.specs.declared.form.Function.{Function}
use Rattle.erl_tree.specs.declared.form.RecDefKind.{RecDefKind}
use Rattle.erl_tree.specs.declared.expr.BinaryOp.TheVariants as B
use Rattle.erl_runs.specs.Value.{came, raised, throw}
use Rattle.examples_runs.specs.Trees as T
use Rattle.examples_runs.specs.Patterns as P
use Rattle.examples_runs.specs.Outcomes as V
use Rattle.examples_runs.specs.Outcomes.{outcome_of}

abbrev pub records : List RecDefKind
records = []

abbrev pub functions : List Function
functions = []

-- case 1 of 1 -> a; 2 -> b end
abbrev pub cases_1 : Type 0
cases_1 = outcome_of records functions (T.case_of (T.int 1) (T.clause (P.int 1 ∷ []) (T.value (T.atom (codes "a")) ∷ []) ∷ T.clause (P.int 2 ∷ []) (T.value (T.atom (codes "b")) ∷ []) ∷ [])) ≡ came (V.atom (codes "a"))

-- case 2 of 1 -> a; 2 -> b end
abbrev pub cases_2 : Type 0
cases_2 = outcome_of records functions (T.case_of (T.int 2) (T.clause (P.int 1 ∷ []) (T.value (T.atom (codes "a")) ∷ []) ∷ T.clause (P.int 2 ∷ []) (T.value (T.atom (codes "b")) ∷ []) ∷ [])) ≡ came (V.atom (codes "b"))

-- case 3 of 1 -> a; X -> {b, X} end
abbrev pub cases_3 : Type 0
cases_3 = outcome_of records functions (T.case_of (T.int 3) (T.clause (P.int 1 ∷ []) (T.value (T.atom (codes "a")) ∷ []) ∷ T.clause (P.var (codes "X") ∷ []) (T.value (T.tuple (T.atom (codes "b") ∷ T.var (codes "X") ∷ [])) ∷ []) ∷ [])) ≡ came (V.tuple (V.atom (codes "b") ∷ V.int 3 ∷ []))

-- case {a, 1} of {b, X} -> X; {a, X} -> X + 1 end
abbrev pub cases_4 : Type 0
cases_4 = outcome_of records functions (T.case_of (T.tuple (T.atom (codes "a") ∷ T.int 1 ∷ [])) (T.clause (P.tuple (P.atom (codes "b") ∷ P.var (codes "X") ∷ []) ∷ []) (T.value (T.var (codes "X")) ∷ []) ∷ T.clause (P.tuple (P.atom (codes "a") ∷ P.var (codes "X") ∷ []) ∷ []) (T.value (T.binary B.Add (T.var (codes "X")) (T.int 1)) ∷ []) ∷ [])) ≡ came (V.int 2)

-- case 1 of 1 -> first; 1 -> second end
abbrev pub cases_5 : Type 0
cases_5 = outcome_of records functions (T.case_of (T.int 1) (T.clause (P.int 1 ∷ []) (T.value (T.atom (codes "first")) ∷ []) ∷ T.clause (P.int 1 ∷ []) (T.value (T.atom (codes "second")) ∷ []) ∷ [])) ≡ came (V.atom (codes "first"))

-- begin X = 1, case 1 of X -> same; _ -> other end end
abbrev pub cases_6 : Type 0
cases_6 = outcome_of records functions (T.begin_of (T.match (P.var (codes "X")) (T.int 1) ∷ T.value (T.case_of (T.int 1) (T.clause (P.var (codes "X") ∷ []) (T.value (T.atom (codes "same")) ∷ []) ∷ T.clause (P.var (codes "_") ∷ []) (T.value (T.atom (codes "other")) ∷ []) ∷ [])) ∷ [])) ≡ came (V.atom (codes "same"))

-- begin X = 1, case 2 of X -> same; _ -> other end end
abbrev pub cases_7 : Type 0
cases_7 = outcome_of records functions (T.begin_of (T.match (P.var (codes "X")) (T.int 1) ∷ T.value (T.case_of (T.int 2) (T.clause (P.var (codes "X") ∷ []) (T.value (T.atom (codes "same")) ∷ []) ∷ T.clause (P.var (codes "_") ∷ []) (T.value (T.atom (codes "other")) ∷ []) ∷ [])) ∷ [])) ≡ came (V.atom (codes "other"))

-- begin X = 1, case {1, 2} of {X, Y} -> Y end end
abbrev pub cases_8 : Type 0
cases_8 = outcome_of records functions (T.begin_of (T.match (P.var (codes "X")) (T.int 1) ∷ T.value (T.case_of (T.tuple (T.int 1 ∷ T.int 2 ∷ [])) (T.clause (P.tuple (P.var (codes "X") ∷ P.var (codes "Y") ∷ []) ∷ []) (T.value (T.var (codes "Y")) ∷ []) ∷ [])) ∷ [])) ≡ came (V.int 2)

-- case {1, 1} of {X, X} -> same; _ -> other end
abbrev pub cases_9 : Type 0
cases_9 = outcome_of records functions (T.case_of (T.tuple (T.int 1 ∷ T.int 1 ∷ [])) (T.clause (P.tuple (P.var (codes "X") ∷ P.var (codes "X") ∷ []) ∷ []) (T.value (T.atom (codes "same")) ∷ []) ∷ T.clause (P.var (codes "_") ∷ []) (T.value (T.atom (codes "other")) ∷ []) ∷ [])) ≡ came (V.atom (codes "same"))

-- case {1, 2} of {X, X} -> same; _ -> other end
abbrev pub cases_10 : Type 0
cases_10 = outcome_of records functions (T.case_of (T.tuple (T.int 1 ∷ T.int 2 ∷ [])) (T.clause (P.tuple (P.var (codes "X") ∷ P.var (codes "X") ∷ []) ∷ []) (T.value (T.atom (codes "same")) ∷ []) ∷ T.clause (P.var (codes "_") ∷ []) (T.value (T.atom (codes "other")) ∷ []) ∷ [])) ≡ came (V.atom (codes "other"))

-- case {1, 2} of {_X, _X} -> same; _ -> other end
abbrev pub cases_11 : Type 0
cases_11 = outcome_of records functions (T.case_of (T.tuple (T.int 1 ∷ T.int 2 ∷ [])) (T.clause (P.tuple (P.var (codes "_X") ∷ P.var (codes "_X") ∷ []) ∷ []) (T.value (T.atom (codes "same")) ∷ []) ∷ T.clause (P.var (codes "_") ∷ []) (T.value (T.atom (codes "other")) ∷ []) ∷ [])) ≡ came (V.atom (codes "other"))

-- case {1, 2} of {_, _} -> pair end
abbrev pub cases_12 : Type 0
cases_12 = outcome_of records functions (T.case_of (T.tuple (T.int 1 ∷ T.int 2 ∷ [])) (T.clause (P.tuple (P.var (codes "_") ∷ P.var (codes "_") ∷ []) ∷ []) (T.value (T.atom (codes "pair")) ∷ []) ∷ [])) ≡ came (V.atom (codes "pair"))

-- case 5 of X when X > 3 -> big; _ -> small end
abbrev pub cases_13 : Type 0
cases_13 = outcome_of records functions (T.case_of (T.int 5) (T.clause_when (P.var (codes "X") ∷ []) ((T.binary B.Gt (T.var (codes "X")) (T.int 3) ∷ []) ∷ []) (T.value (T.atom (codes "big")) ∷ []) ∷ T.clause (P.var (codes "_") ∷ []) (T.value (T.atom (codes "small")) ∷ []) ∷ [])) ≡ came (V.atom (codes "big"))

-- case 5 of X when X > 7 -> big; X when X > 4 -> middle; _ -> small end
abbrev pub cases_14 : Type 0
cases_14 = outcome_of records functions (T.case_of (T.int 5) (T.clause_when (P.var (codes "X") ∷ []) ((T.binary B.Gt (T.var (codes "X")) (T.int 7) ∷ []) ∷ []) (T.value (T.atom (codes "big")) ∷ []) ∷ T.clause_when (P.var (codes "X") ∷ []) ((T.binary B.Gt (T.var (codes "X")) (T.int 4) ∷ []) ∷ []) (T.value (T.atom (codes "middle")) ∷ []) ∷ T.clause (P.var (codes "_") ∷ []) (T.value (T.atom (codes "small")) ∷ []) ∷ [])) ≡ came (V.atom (codes "middle"))

-- case 1 + 1 of 2 -> Y = 3, Y * 2 end
abbrev pub cases_15 : Type 0
cases_15 = outcome_of records functions (T.case_of (T.binary B.Add (T.int 1) (T.int 1)) (T.clause (P.int 2 ∷ []) (T.match (P.var (codes "Y")) (T.int 3) ∷ T.value (T.binary B.Mul (T.var (codes "Y")) (T.int 2)) ∷ []) ∷ [])) ≡ came (V.int 6)

-- case throw(1) of _ -> 2 end
abbrev pub cases_16 : Type 0
cases_16 = outcome_of records functions (T.case_of (T.call (codes "throw") (T.int 1 ∷ [])) (T.clause (P.var (codes "_") ∷ []) (T.value (T.int 2) ∷ []) ∷ [])) ≡ raised throw (V.int 1)

-- case 1 of _ -> throw(2) end
abbrev pub cases_17 : Type 0
cases_17 = outcome_of records functions (T.case_of (T.int 1) (T.clause (P.var (codes "_") ∷ []) (T.value (T.call (codes "throw") (T.int 2 ∷ [])) ∷ []) ∷ [])) ≡ raised throw (V.int 2)

-- case case 1 of 1 -> 2 end of 2 -> 3 end
abbrev pub cases_18 : Type 0
cases_18 = outcome_of records functions (T.case_of (T.case_of (T.int 1) (T.clause (P.int 1 ∷ []) (T.value (T.int 2) ∷ []) ∷ [])) (T.clause (P.int 2 ∷ []) (T.value (T.int 3) ∷ []) ∷ [])) ≡ came (V.int 3)

-- case 1 of X -> case 2 of X -> same; Y -> {X, Y} end end
abbrev pub cases_19 : Type 0
cases_19 = outcome_of records functions (T.case_of (T.int 1) (T.clause (P.var (codes "X") ∷ []) (T.value (T.case_of (T.int 2) (T.clause (P.var (codes "X") ∷ []) (T.value (T.atom (codes "same")) ∷ []) ∷ T.clause (P.var (codes "Y") ∷ []) (T.value (T.tuple (T.var (codes "X") ∷ T.var (codes "Y") ∷ [])) ∷ []) ∷ [])) ∷ []) ∷ [])) ≡ came (V.tuple (V.int 1 ∷ V.int 2 ∷ []))

-- all of them
abbrev pub Cases : Type 0
Cases = cases_1 × cases_2 × cases_3 × cases_4 × cases_5 × cases_6 × cases_7 × cases_8 × cases_9 × cases_10 × cases_11 × cases_12 × cases_13 × cases_14 × cases_15 × cases_16 × cases_17 × cases_18 × cases_19
