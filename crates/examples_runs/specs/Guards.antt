-- Examples of runs: if expressions and guards. Written by expressions.escript.
use Rattle.std.specs.Prelude.{◌≡◌, List, [], ◌∷◌, codes}
use Rattle.erl_tree.specs.declared.form.Function.{Function}
use Rattle.erl_tree.specs.declared.form.RecDefKind.{RecDefKind}
use Rattle.erl_tree.specs.declared.expr.UnaryOp.TheVariants as U
use Rattle.erl_tree.specs.declared.expr.BinaryOp.TheVariants as B
use Rattle.erl_runs.specs.Value.{came}
use Rattle.examples_runs.specs.Trees as T
use Rattle.examples_runs.specs.Patterns as P
use Rattle.examples_runs.specs.Outcomes as V
use Rattle.examples_runs.specs.Outcomes.{outcome_of}

abbrev pub records : List RecDefKind
records = []

abbrev pub functions : List Function
functions = []

-- if true -> a end
abbrev pub guards_1 : Type 0
guards_1 = outcome_of records functions (T.if_of (T.clause_when [] ((T.atom (codes "true") ∷ []) ∷ []) (T.value (T.atom (codes "a")) ∷ []) ∷ [])) ≡ came (V.atom (codes "a"))

-- if false -> a; true -> b end
abbrev pub guards_2 : Type 0
guards_2 = outcome_of records functions (T.if_of (T.clause_when [] ((T.atom (codes "false") ∷ []) ∷ []) (T.value (T.atom (codes "a")) ∷ []) ∷ T.clause_when [] ((T.atom (codes "true") ∷ []) ∷ []) (T.value (T.atom (codes "b")) ∷ []) ∷ [])) ≡ came (V.atom (codes "b"))

-- if 1 < 2 -> a; true -> b end
abbrev pub guards_3 : Type 0
guards_3 = outcome_of records functions (T.if_of (T.clause_when [] ((T.binary B.Lt (T.int 1) (T.int 2) ∷ []) ∷ []) (T.value (T.atom (codes "a")) ∷ []) ∷ T.clause_when [] ((T.atom (codes "true") ∷ []) ∷ []) (T.value (T.atom (codes "b")) ∷ []) ∷ [])) ≡ came (V.atom (codes "a"))

-- if 1 > 2 -> a; 2 > 2 -> b; true -> c end
abbrev pub guards_4 : Type 0
guards_4 = outcome_of records functions (T.if_of (T.clause_when [] ((T.binary B.Gt (T.int 1) (T.int 2) ∷ []) ∷ []) (T.value (T.atom (codes "a")) ∷ []) ∷ T.clause_when [] ((T.binary B.Gt (T.int 2) (T.int 2) ∷ []) ∷ []) (T.value (T.atom (codes "b")) ∷ []) ∷ T.clause_when [] ((T.atom (codes "true") ∷ []) ∷ []) (T.value (T.atom (codes "c")) ∷ []) ∷ [])) ≡ came (V.atom (codes "c"))

-- if 1 < 2, 2 < 3 -> a; true -> b end
abbrev pub guards_5 : Type 0
guards_5 = outcome_of records functions (T.if_of (T.clause_when [] ((T.binary B.Lt (T.int 1) (T.int 2) ∷ T.binary B.Lt (T.int 2) (T.int 3) ∷ []) ∷ []) (T.value (T.atom (codes "a")) ∷ []) ∷ T.clause_when [] ((T.atom (codes "true") ∷ []) ∷ []) (T.value (T.atom (codes "b")) ∷ []) ∷ [])) ≡ came (V.atom (codes "a"))

-- if 1 < 2, 2 < 2 -> a; true -> b end
abbrev pub guards_6 : Type 0
guards_6 = outcome_of records functions (T.if_of (T.clause_when [] ((T.binary B.Lt (T.int 1) (T.int 2) ∷ T.binary B.Lt (T.int 2) (T.int 2) ∷ []) ∷ []) (T.value (T.atom (codes "a")) ∷ []) ∷ T.clause_when [] ((T.atom (codes "true") ∷ []) ∷ []) (T.value (T.atom (codes "b")) ∷ []) ∷ [])) ≡ came (V.atom (codes "b"))

-- if 1 > 2; 2 > 1 -> a; true -> b end
abbrev pub guards_7 : Type 0
guards_7 = outcome_of records functions (T.if_of (T.clause_when [] ((T.binary B.Gt (T.int 1) (T.int 2) ∷ []) ∷ (T.binary B.Gt (T.int 2) (T.int 1) ∷ []) ∷ []) (T.value (T.atom (codes "a")) ∷ []) ∷ T.clause_when [] ((T.atom (codes "true") ∷ []) ∷ []) (T.value (T.atom (codes "b")) ∷ []) ∷ [])) ≡ came (V.atom (codes "a"))

-- if 1 > 2; 2 > 3 -> a; true -> b end
abbrev pub guards_8 : Type 0
guards_8 = outcome_of records functions (T.if_of (T.clause_when [] ((T.binary B.Gt (T.int 1) (T.int 2) ∷ []) ∷ (T.binary B.Gt (T.int 2) (T.int 3) ∷ []) ∷ []) (T.value (T.atom (codes "a")) ∷ []) ∷ T.clause_when [] ((T.atom (codes "true") ∷ []) ∷ []) (T.value (T.atom (codes "b")) ∷ []) ∷ [])) ≡ came (V.atom (codes "b"))

-- if 1 > 2, true; 1 < 2, true -> a; true -> b end
abbrev pub guards_9 : Type 0
guards_9 = outcome_of records functions (T.if_of (T.clause_when [] ((T.binary B.Gt (T.int 1) (T.int 2) ∷ T.atom (codes "true") ∷ []) ∷ (T.binary B.Lt (T.int 1) (T.int 2) ∷ T.atom (codes "true") ∷ []) ∷ []) (T.value (T.atom (codes "a")) ∷ []) ∷ T.clause_when [] ((T.atom (codes "true") ∷ []) ∷ []) (T.value (T.atom (codes "b")) ∷ []) ∷ [])) ≡ came (V.atom (codes "a"))

-- if hd([]) == 1 -> a; true -> b end
abbrev pub guards_10 : Type 0
guards_10 = outcome_of records functions (T.if_of (T.clause_when [] ((T.binary B.Eq (T.call (codes "hd") (T.list [] ∷ [])) (T.int 1) ∷ []) ∷ []) (T.value (T.atom (codes "a")) ∷ []) ∷ T.clause_when [] ((T.atom (codes "true") ∷ []) ∷ []) (T.value (T.atom (codes "b")) ∷ []) ∷ [])) ≡ came (V.atom (codes "b"))

-- if hd([]) == 1; true -> a; true -> b end
abbrev pub guards_11 : Type 0
guards_11 = outcome_of records functions (T.if_of (T.clause_when [] ((T.binary B.Eq (T.call (codes "hd") (T.list [] ∷ [])) (T.int 1) ∷ []) ∷ (T.atom (codes "true") ∷ []) ∷ []) (T.value (T.atom (codes "a")) ∷ []) ∷ T.clause_when [] ((T.atom (codes "true") ∷ []) ∷ []) (T.value (T.atom (codes "b")) ∷ []) ∷ [])) ≡ came (V.atom (codes "a"))

-- if true; hd([]) == 1 -> a; true -> b end
abbrev pub guards_12 : Type 0
guards_12 = outcome_of records functions (T.if_of (T.clause_when [] ((T.atom (codes "true") ∷ []) ∷ (T.binary B.Eq (T.call (codes "hd") (T.list [] ∷ [])) (T.int 1) ∷ []) ∷ []) (T.value (T.atom (codes "a")) ∷ []) ∷ T.clause_when [] ((T.atom (codes "true") ∷ []) ∷ []) (T.value (T.atom (codes "b")) ∷ []) ∷ [])) ≡ came (V.atom (codes "a"))

-- if true, hd([]) == 1 -> a; true -> b end
abbrev pub guards_13 : Type 0
guards_13 = outcome_of records functions (T.if_of (T.clause_when [] ((T.atom (codes "true") ∷ T.binary B.Eq (T.call (codes "hd") (T.list [] ∷ [])) (T.int 1) ∷ []) ∷ []) (T.value (T.atom (codes "a")) ∷ []) ∷ T.clause_when [] ((T.atom (codes "true") ∷ []) ∷ []) (T.value (T.atom (codes "b")) ∷ []) ∷ [])) ≡ came (V.atom (codes "b"))

-- if (hd([]) == 1) or true -> a; true -> b end
abbrev pub guards_14 : Type 0
guards_14 = outcome_of records functions (T.if_of (T.clause_when [] ((T.binary B.Or (T.paren (T.binary B.Eq (T.call (codes "hd") (T.list [] ∷ [])) (T.int 1))) (T.atom (codes "true")) ∷ []) ∷ []) (T.value (T.atom (codes "a")) ∷ []) ∷ T.clause_when [] ((T.atom (codes "true") ∷ []) ∷ []) (T.value (T.atom (codes "b")) ∷ []) ∷ [])) ≡ came (V.atom (codes "b"))

-- if true orelse hd([]) -> a; true -> b end
abbrev pub guards_15 : Type 0
guards_15 = outcome_of records functions (T.if_of (T.clause_when [] ((T.binary B.Orelse (T.atom (codes "true")) (T.call (codes "hd") (T.list [] ∷ [])) ∷ []) ∷ []) (T.value (T.atom (codes "a")) ∷ []) ∷ T.clause_when [] ((T.atom (codes "true") ∷ []) ∷ []) (T.value (T.atom (codes "b")) ∷ []) ∷ [])) ≡ came (V.atom (codes "a"))

-- if false andalso hd([]); true -> a; true -> b end
abbrev pub guards_16 : Type 0
guards_16 = outcome_of records functions (T.if_of (T.clause_when [] ((T.binary B.Andalso (T.atom (codes "false")) (T.call (codes "hd") (T.list [] ∷ [])) ∷ []) ∷ (T.atom (codes "true") ∷ []) ∷ []) (T.value (T.atom (codes "a")) ∷ []) ∷ T.clause_when [] ((T.atom (codes "true") ∷ []) ∷ []) (T.value (T.atom (codes "b")) ∷ []) ∷ [])) ≡ came (V.atom (codes "a"))

-- if 1 div 0 == 1 -> a; true -> b end
abbrev pub guards_17 : Type 0
guards_17 = outcome_of records functions (T.if_of (T.clause_when [] ((T.binary B.Eq (T.binary B.Div (T.int 1) (T.int 0)) (T.int 1) ∷ []) ∷ []) (T.value (T.atom (codes "a")) ∷ []) ∷ T.clause_when [] ((T.atom (codes "true") ∷ []) ∷ []) (T.value (T.atom (codes "b")) ∷ []) ∷ [])) ≡ came (V.atom (codes "b"))

-- if not (1 div 0 == 1) -> a; true -> b end
abbrev pub guards_18 : Type 0
guards_18 = outcome_of records functions (T.if_of (T.clause_when [] ((T.unary U.Not (T.paren (T.binary B.Eq (T.binary B.Div (T.int 1) (T.int 0)) (T.int 1))) ∷ []) ∷ []) (T.value (T.atom (codes "a")) ∷ []) ∷ T.clause_when [] ((T.atom (codes "true") ∷ []) ∷ []) (T.value (T.atom (codes "b")) ∷ []) ∷ [])) ≡ came (V.atom (codes "b"))

-- if 1 -> a; true -> b end
abbrev pub guards_19 : Type 0
guards_19 = outcome_of records functions (T.if_of (T.clause_when [] ((T.int 1 ∷ []) ∷ []) (T.value (T.atom (codes "a")) ∷ []) ∷ T.clause_when [] ((T.atom (codes "true") ∷ []) ∷ []) (T.value (T.atom (codes "b")) ∷ []) ∷ [])) ≡ came (V.atom (codes "b"))

-- if a; true andalso 1 -> a; true -> b end
abbrev pub guards_20 : Type 0
guards_20 = outcome_of records functions (T.if_of (T.clause_when [] ((T.atom (codes "a") ∷ []) ∷ (T.binary B.Andalso (T.atom (codes "true")) (T.int 1) ∷ []) ∷ []) (T.value (T.atom (codes "a")) ∷ []) ∷ T.clause_when [] ((T.atom (codes "true") ∷ []) ∷ []) (T.value (T.atom (codes "b")) ∷ []) ∷ [])) ≡ came (V.atom (codes "b"))

-- if not false -> a end
abbrev pub guards_21 : Type 0
guards_21 = outcome_of records functions (T.if_of (T.clause_when [] ((T.unary U.Not (T.atom (codes "false")) ∷ []) ∷ []) (T.value (T.atom (codes "a")) ∷ []) ∷ [])) ≡ came (V.atom (codes "a"))

-- if hd([]) orelse true -> a; true -> b end
abbrev pub guards_22 : Type 0
guards_22 = outcome_of records functions (T.if_of (T.clause_when [] ((T.binary B.Orelse (T.call (codes "hd") (T.list [] ∷ [])) (T.atom (codes "true")) ∷ []) ∷ []) (T.value (T.atom (codes "a")) ∷ []) ∷ T.clause_when [] ((T.atom (codes "true") ∷ []) ∷ []) (T.value (T.atom (codes "b")) ∷ []) ∷ [])) ≡ came (V.atom (codes "b"))

-- if true or hd([]) -> a; true -> b end
abbrev pub guards_23 : Type 0
guards_23 = outcome_of records functions (T.if_of (T.clause_when [] ((T.binary B.Or (T.atom (codes "true")) (T.call (codes "hd") (T.list [] ∷ [])) ∷ []) ∷ []) (T.value (T.atom (codes "a")) ∷ []) ∷ T.clause_when [] ((T.atom (codes "true") ∷ []) ∷ []) (T.value (T.atom (codes "b")) ∷ []) ∷ [])) ≡ came (V.atom (codes "b"))

-- if erlang:is_atom(a), is_function(a, 0) -> a; true -> b end
abbrev pub guards_24 : Type 0
guards_24 = outcome_of records functions (T.if_of (T.clause_when [] ((T.erlang_call (codes "is_atom") (T.atom (codes "a") ∷ []) ∷ T.call (codes "is_function") (T.atom (codes "a") ∷ T.int 0 ∷ []) ∷ []) ∷ []) (T.value (T.atom (codes "a")) ∷ []) ∷ T.clause_when [] ((T.atom (codes "true") ∷ []) ∷ []) (T.value (T.atom (codes "b")) ∷ []) ∷ [])) ≡ came (V.atom (codes "b"))

-- case a of X when is_integer(X) -> int; X when is_atom(X) -> atom end
abbrev pub guards_25 : Type 0
guards_25 = outcome_of records functions (T.case_of (T.atom (codes "a")) (T.clause_when (P.var (codes "X") ∷ []) ((T.call (codes "is_integer") (T.var (codes "X") ∷ []) ∷ []) ∷ []) (T.value (T.atom (codes "int")) ∷ []) ∷ T.clause_when (P.var (codes "X") ∷ []) ((T.call (codes "is_atom") (T.var (codes "X") ∷ []) ∷ []) ∷ []) (T.value (T.atom (codes "atom")) ∷ []) ∷ [])) ≡ came (V.atom (codes "atom"))

-- case a of X when X + 1 > 0 -> int; _ -> other end
abbrev pub guards_26 : Type 0
guards_26 = outcome_of records functions (T.case_of (T.atom (codes "a")) (T.clause_when (P.var (codes "X") ∷ []) ((T.binary B.Gt (T.binary B.Add (T.var (codes "X")) (T.int 1)) (T.int 0) ∷ []) ∷ []) (T.value (T.atom (codes "int")) ∷ []) ∷ T.clause (P.var (codes "_") ∷ []) (T.value (T.atom (codes "other")) ∷ []) ∷ [])) ≡ came (V.atom (codes "other"))

-- case {1, 2} of {X, Y} when X < Y, is_integer(X) -> less; _ -> other end
abbrev pub guards_27 : Type 0
guards_27 = outcome_of records functions (T.case_of (T.tuple (T.int 1 ∷ T.int 2 ∷ [])) (T.clause_when (P.tuple (P.var (codes "X") ∷ P.var (codes "Y") ∷ []) ∷ []) ((T.binary B.Lt (T.var (codes "X")) (T.var (codes "Y")) ∷ T.call (codes "is_integer") (T.var (codes "X") ∷ []) ∷ []) ∷ []) (T.value (T.atom (codes "less")) ∷ []) ∷ T.clause (P.var (codes "_") ∷ []) (T.value (T.atom (codes "other")) ∷ []) ∷ [])) ≡ came (V.atom (codes "less"))

-- case [1, 2] of L when length(L) > 1, hd(L) =:= 1 -> yes; _ -> no end
abbrev pub guards_28 : Type 0
guards_28 = outcome_of records functions (T.case_of (T.list (T.int 1 ∷ T.int 2 ∷ [])) (T.clause_when (P.var (codes "L") ∷ []) ((T.binary B.Gt (T.call (codes "length") (T.var (codes "L") ∷ [])) (T.int 1) ∷ T.binary B.ExactEq (T.call (codes "hd") (T.var (codes "L") ∷ [])) (T.int 1) ∷ []) ∷ []) (T.value (T.atom (codes "yes")) ∷ []) ∷ T.clause (P.var (codes "_") ∷ []) (T.value (T.atom (codes "no")) ∷ []) ∷ [])) ≡ came (V.atom (codes "yes"))

-- case [1 | 2] of L when length(L) > 1 -> yes; L when tl(L) == 2 -> improper end
abbrev pub guards_29 : Type 0
guards_29 = outcome_of records functions (T.case_of (T.list_onto (T.int 1 ∷ []) (T.int 2)) (T.clause_when (P.var (codes "L") ∷ []) ((T.binary B.Gt (T.call (codes "length") (T.var (codes "L") ∷ [])) (T.int 1) ∷ []) ∷ []) (T.value (T.atom (codes "yes")) ∷ []) ∷ T.clause_when (P.var (codes "L") ∷ []) ((T.binary B.Eq (T.call (codes "tl") (T.var (codes "L") ∷ [])) (T.int 2) ∷ []) ∷ []) (T.value (T.atom (codes "improper")) ∷ []) ∷ [])) ≡ came (V.atom (codes "improper"))

-- case #{a => 1} of M when map_size(M) == 1 -> yes end
abbrev pub guards_30 : Type 0
guards_30 = outcome_of records functions (T.case_of (T.map_new (T.sets (T.atom (codes "a")) (T.int 1) ∷ [])) (T.clause_when (P.var (codes "M") ∷ []) ((T.binary B.Eq (T.call (codes "map_size") (T.var (codes "M") ∷ [])) (T.int 1) ∷ []) ∷ []) (T.value (T.atom (codes "yes")) ∷ []) ∷ [])) ≡ came (V.atom (codes "yes"))

-- case {a, b} of T when tuple_size(T) == 2 -> yes end
abbrev pub guards_31 : Type 0
guards_31 = outcome_of records functions (T.case_of (T.tuple (T.atom (codes "a") ∷ T.atom (codes "b") ∷ [])) (T.clause_when (P.var (codes "T") ∷ []) ((T.binary B.Eq (T.call (codes "tuple_size") (T.var (codes "T") ∷ [])) (T.int 2) ∷ []) ∷ []) (T.value (T.atom (codes "yes")) ∷ []) ∷ [])) ≡ came (V.atom (codes "yes"))

-- case fun(X) -> X end of F when is_function(F, 1) -> yes; _ -> no end
abbrev pub guards_32 : Type 0
guards_32 = outcome_of records functions (T.case_of (T.fun_of (T.clause (P.var (codes "X") ∷ []) (T.value (T.var (codes "X")) ∷ []) ∷ [])) (T.clause_when (P.var (codes "F") ∷ []) ((T.call (codes "is_function") (T.var (codes "F") ∷ T.int 1 ∷ []) ∷ []) ∷ []) (T.value (T.atom (codes "yes")) ∷ []) ∷ T.clause (P.var (codes "_") ∷ []) (T.value (T.atom (codes "no")) ∷ []) ∷ [])) ≡ came (V.atom (codes "yes"))

-- case 1 of X when X andalso true -> a; _ -> b end
abbrev pub guards_33 : Type 0
guards_33 = outcome_of records functions (T.case_of (T.int 1) (T.clause_when (P.var (codes "X") ∷ []) ((T.binary B.Andalso (T.var (codes "X")) (T.atom (codes "true")) ∷ []) ∷ []) (T.value (T.atom (codes "a")) ∷ []) ∷ T.clause (P.var (codes "_") ∷ []) (T.value (T.atom (codes "b")) ∷ []) ∷ [])) ≡ came (V.atom (codes "b"))

-- case true of X when X -> a; _ -> b end
abbrev pub guards_34 : Type 0
guards_34 = outcome_of records functions (T.case_of (T.atom (codes "true")) (T.clause_when (P.var (codes "X") ∷ []) ((T.var (codes "X") ∷ []) ∷ []) (T.value (T.atom (codes "a")) ∷ []) ∷ T.clause (P.var (codes "_") ∷ []) (T.value (T.atom (codes "b")) ∷ []) ∷ [])) ≡ came (V.atom (codes "a"))

-- case true of X when X and not X -> a; _ -> b end
abbrev pub guards_35 : Type 0
guards_35 = outcome_of records functions (T.case_of (T.atom (codes "true")) (T.clause_when (P.var (codes "X") ∷ []) ((T.binary B.And (T.var (codes "X")) (T.unary U.Not (T.var (codes "X"))) ∷ []) ∷ []) (T.value (T.atom (codes "a")) ∷ []) ∷ T.clause (P.var (codes "_") ∷ []) (T.value (T.atom (codes "b")) ∷ []) ∷ [])) ≡ came (V.atom (codes "b"))

-- case 1 of X when {X, [X | a]} == {1, [1 | a]} -> a; _ -> b end
abbrev pub guards_36 : Type 0
guards_36 = outcome_of records functions (T.case_of (T.int 1) (T.clause_when (P.var (codes "X") ∷ []) ((T.binary B.Eq (T.tuple (T.var (codes "X") ∷ T.list_onto (T.var (codes "X") ∷ []) (T.atom (codes "a")) ∷ [])) (T.tuple (T.int 1 ∷ T.list_onto (T.int 1 ∷ []) (T.atom (codes "a")) ∷ [])) ∷ []) ∷ []) (T.value (T.atom (codes "a")) ∷ []) ∷ T.clause (P.var (codes "_") ∷ []) (T.value (T.atom (codes "b")) ∷ []) ∷ [])) ≡ came (V.atom (codes "a"))

-- case 1 of X when "a" == [97], X == 1 -> a; _ -> b end
abbrev pub guards_37 : Type 0
guards_37 = outcome_of records functions (T.case_of (T.int 1) (T.clause_when (P.var (codes "X") ∷ []) ((T.binary B.Eq (T.text (codes "a")) (T.list (T.int 97 ∷ [])) ∷ T.binary B.Eq (T.var (codes "X")) (T.int 1) ∷ []) ∷ []) (T.value (T.atom (codes "a")) ∷ []) ∷ T.clause (P.var (codes "_") ∷ []) (T.value (T.atom (codes "b")) ∷ []) ∷ [])) ≡ came (V.atom (codes "a"))

-- case 5 of X when abs(-X) == 5, X rem 2 == 1, -X < +X -> a; _ -> b end
abbrev pub guards_38 : Type 0
guards_38 = outcome_of records functions (T.case_of (T.int 5) (T.clause_when (P.var (codes "X") ∷ []) ((T.binary B.Eq (T.call (codes "abs") (T.unary U.Minus (T.var (codes "X")) ∷ [])) (T.int 5) ∷ T.binary B.Eq (T.binary B.Rem (T.var (codes "X")) (T.int 2)) (T.int 1) ∷ T.binary B.Lt (T.unary U.Minus (T.var (codes "X"))) (T.unary U.Plus (T.var (codes "X"))) ∷ []) ∷ []) (T.value (T.atom (codes "a")) ∷ []) ∷ T.clause (P.var (codes "_") ∷ []) (T.value (T.atom (codes "b")) ∷ []) ∷ [])) ≡ came (V.atom (codes "a"))

-- case true of X when X xor true; X or false -> a; _ -> b end
abbrev pub guards_39 : Type 0
guards_39 = outcome_of records functions (T.case_of (T.atom (codes "true")) (T.clause_when (P.var (codes "X") ∷ []) ((T.binary B.Xor (T.var (codes "X")) (T.atom (codes "true")) ∷ []) ∷ (T.binary B.Or (T.var (codes "X")) (T.atom (codes "false")) ∷ []) ∷ []) (T.value (T.atom (codes "a")) ∷ []) ∷ T.clause (P.var (codes "_") ∷ []) (T.value (T.atom (codes "b")) ∷ []) ∷ [])) ≡ came (V.atom (codes "a"))

-- begin X = 1, Y = 2, if X == Y -> same; X < Y -> less end end
abbrev pub guards_40 : Type 0
guards_40 = outcome_of records functions (T.begin_of (T.match (P.var (codes "X")) (T.int 1) ∷ T.match (P.var (codes "Y")) (T.int 2) ∷ T.value (T.if_of (T.clause_when [] ((T.binary B.Eq (T.var (codes "X")) (T.var (codes "Y")) ∷ []) ∷ []) (T.value (T.atom (codes "same")) ∷ []) ∷ T.clause_when [] ((T.binary B.Lt (T.var (codes "X")) (T.var (codes "Y")) ∷ []) ∷ []) (T.value (T.atom (codes "less")) ∷ []) ∷ [])) ∷ [])) ≡ came (V.atom (codes "less"))

-- all of them
abbrev pub Guards : Type 0
Guards = guards_1 × guards_2 × guards_3 × guards_4 × guards_5 × guards_6 × guards_7 × guards_8 × guards_9 × guards_10 × guards_11 × guards_12 × guards_13 × guards_14 × guards_15 × guards_16 × guards_17 × guards_18 × guards_19 × guards_20 × guards_21 × guards_22 × guards_23 × guards_24 × guards_25 × guards_26 × guards_27 × guards_28 × guards_29 × guards_30 × guards_31 × guards_32 × guards_33 × guards_34 × guards_35 × guards_36 × guards_37 × guards_38 × guards_39 × guards_40
