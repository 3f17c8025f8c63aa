-- Examples of runs: list comprehensions. Written by expressions.escript.
use Rattle.std.specs.Prelude.{◌≡◌, List, [], ◌∷◌, codes}
use Rattle.erl_tree.specs.declared.form.Function.{Function}
use Rattle.erl_tree.specs.declared.form.RecDefKind.{RecDefKind}
use Rattle.erl_tree.specs.declared.expr.UnaryOp.TheVariants as U
use Rattle.erl_tree.specs.declared.expr.BinaryOp.TheVariants as B
use Rattle.erl_runs.specs.Value.{came, raised, error, throw}
use Rattle.examples_runs.specs.Trees as T
use Rattle.examples_runs.specs.Patterns as P
use Rattle.examples_runs.specs.Outcomes as V
use Rattle.examples_runs.specs.Outcomes.{outcome_of}

-- odd(X) -> X rem 2 == 1.

abbrev pub records : List RecDefKind
records = []

abbrev pub functions : List Function
functions = T.function (codes "odd") (T.clause (P.var (codes "X") ∷ []) (T.value (T.binary B.Eq (T.binary B.Rem (T.var (codes "X")) (T.int 2)) (T.int 1)) ∷ []) ∷ []) ∷ []

-- [X || X <- []]
abbrev pub comprehensions_1 : Type 0
comprehensions_1 = outcome_of records functions (T.comprehension (T.var (codes "X")) (T.generator (P.var (codes "X")) (T.list []) ∷ [])) ≡ came (V.list [])

-- [X || X <- [1, 2, 3]]
abbrev pub comprehensions_2 : Type 0
comprehensions_2 = outcome_of records functions (T.comprehension (T.var (codes "X")) (T.generator (P.var (codes "X")) (T.list (T.int 1 ∷ T.int 2 ∷ T.int 3 ∷ [])) ∷ [])) ≡ came (V.list (V.int 1 ∷ V.int 2 ∷ V.int 3 ∷ []))

-- [X * X || X <- [1, 2, 3], X > 1]
abbrev pub comprehensions_3 : Type 0
comprehensions_3 = outcome_of records functions (T.comprehension (T.binary B.Mul (T.var (codes "X")) (T.var (codes "X"))) (T.generator (P.var (codes "X")) (T.list (T.int 1 ∷ T.int 2 ∷ T.int 3 ∷ [])) ∷ T.filter (T.binary B.Gt (T.var (codes "X")) (T.int 1)) ∷ [])) ≡ came (V.list (V.int 4 ∷ V.int 9 ∷ []))

-- [a || _ <- [1, 2]]
abbrev pub comprehensions_4 : Type 0
comprehensions_4 = outcome_of records functions (T.comprehension (T.atom (codes "a")) (T.generator (P.var (codes "_")) (T.list (T.int 1 ∷ T.int 2 ∷ [])) ∷ [])) ≡ came (V.list (V.atom (codes "a") ∷ V.atom (codes "a") ∷ []))

-- [{X, Y} || X <- [1, 2], Y <- [a, b]]
abbrev pub comprehensions_5 : Type 0
comprehensions_5 = outcome_of records functions (T.comprehension (T.tuple (T.var (codes "X") ∷ T.var (codes "Y") ∷ [])) (T.generator (P.var (codes "X")) (T.list (T.int 1 ∷ T.int 2 ∷ [])) ∷ T.generator (P.var (codes "Y")) (T.list (T.atom (codes "a") ∷ T.atom (codes "b") ∷ [])) ∷ [])) ≡ came (V.list (V.tuple (V.int 1 ∷ V.atom (codes "a") ∷ []) ∷ V.tuple (V.int 1 ∷ V.atom (codes "b") ∷ []) ∷ V.tuple (V.int 2 ∷ V.atom (codes "a") ∷ []) ∷ V.tuple (V.int 2 ∷ V.atom (codes "b") ∷ []) ∷ []))

-- [Y || X <- [[1, 2], [], [3]], Y <- X]
abbrev pub comprehensions_6 : Type 0
comprehensions_6 = outcome_of records functions (T.comprehension (T.var (codes "Y")) (T.generator (P.var (codes "X")) (T.list (T.list (T.int 1 ∷ T.int 2 ∷ []) ∷ T.list [] ∷ T.list (T.int 3 ∷ []) ∷ [])) ∷ T.generator (P.var (codes "Y")) (T.var (codes "X")) ∷ [])) ≡ came (V.list (V.int 1 ∷ V.int 2 ∷ V.int 3 ∷ []))

-- [{X, Y} || X <- [1, 2, 3], X > 1, Y <- [X, 10], Y > 2]
abbrev pub comprehensions_7 : Type 0
comprehensions_7 = outcome_of records functions (T.comprehension (T.tuple (T.var (codes "X") ∷ T.var (codes "Y") ∷ [])) (T.generator (P.var (codes "X")) (T.list (T.int 1 ∷ T.int 2 ∷ T.int 3 ∷ [])) ∷ T.filter (T.binary B.Gt (T.var (codes "X")) (T.int 1)) ∷ T.generator (P.var (codes "Y")) (T.list (T.var (codes "X") ∷ T.int 10 ∷ [])) ∷ T.filter (T.binary B.Gt (T.var (codes "Y")) (T.int 2)) ∷ [])) ≡ came (V.list (V.tuple (V.int 2 ∷ V.int 10 ∷ []) ∷ V.tuple (V.int 3 ∷ V.int 3 ∷ []) ∷ V.tuple (V.int 3 ∷ V.int 10 ∷ []) ∷ []))

-- [X || X <- [1, 2, 3, 4], X > 1, X < 4]
abbrev pub comprehensions_8 : Type 0
comprehensions_8 = outcome_of records functions (T.comprehension (T.var (codes "X")) (T.generator (P.var (codes "X")) (T.list (T.int 1 ∷ T.int 2 ∷ T.int 3 ∷ T.int 4 ∷ [])) ∷ T.filter (T.binary B.Gt (T.var (codes "X")) (T.int 1)) ∷ T.filter (T.binary B.Lt (T.var (codes "X")) (T.int 4)) ∷ [])) ≡ came (V.list (V.int 2 ∷ V.int 3 ∷ []))

-- [X || X <- [1, 2, 3], odd(X)]
abbrev pub comprehensions_9 : Type 0
comprehensions_9 = outcome_of records functions (T.comprehension (T.var (codes "X")) (T.generator (P.var (codes "X")) (T.list (T.int 1 ∷ T.int 2 ∷ T.int 3 ∷ [])) ∷ T.filter (T.call (codes "odd") (T.var (codes "X") ∷ [])) ∷ [])) ≡ came (V.list (V.int 1 ∷ V.int 3 ∷ []))

-- [X || X <- [1, 2, 3], not odd(X)]
abbrev pub comprehensions_10 : Type 0
comprehensions_10 = outcome_of records functions (T.comprehension (T.var (codes "X")) (T.generator (P.var (codes "X")) (T.list (T.int 1 ∷ T.int 2 ∷ T.int 3 ∷ [])) ∷ T.filter (T.unary U.Not (T.call (codes "odd") (T.var (codes "X") ∷ []))) ∷ [])) ≡ came (V.list (V.int 2 ∷ []))

-- [X || X <- [1, 2, 3], begin Y = X * 2, Y > 2 end]
abbrev pub comprehensions_11 : Type 0
comprehensions_11 = outcome_of records functions (T.comprehension (T.var (codes "X")) (T.generator (P.var (codes "X")) (T.list (T.int 1 ∷ T.int 2 ∷ T.int 3 ∷ [])) ∷ T.filter (T.begin_of (T.match (P.var (codes "Y")) (T.binary B.Mul (T.var (codes "X")) (T.int 2)) ∷ T.value (T.binary B.Gt (T.var (codes "Y")) (T.int 2)) ∷ [])) ∷ [])) ≡ came (V.list (V.int 2 ∷ V.int 3 ∷ []))

-- [X || X <- [1, 2, 3], case X of 2 -> false; _ -> true end]
abbrev pub comprehensions_12 : Type 0
comprehensions_12 = outcome_of records functions (T.comprehension (T.var (codes "X")) (T.generator (P.var (codes "X")) (T.list (T.int 1 ∷ T.int 2 ∷ T.int 3 ∷ [])) ∷ T.filter (T.case_of (T.var (codes "X")) (T.clause (P.int 2 ∷ []) (T.value (T.atom (codes "false")) ∷ []) ∷ T.clause (P.var (codes "_") ∷ []) (T.value (T.atom (codes "true")) ∷ []) ∷ [])) ∷ [])) ≡ came (V.list (V.int 1 ∷ V.int 3 ∷ []))

-- [X || X <- [1, a, 2], X + 1 > 0]
abbrev pub comprehensions_13 : Type 0
comprehensions_13 = outcome_of records functions (T.comprehension (T.var (codes "X")) (T.generator (P.var (codes "X")) (T.list (T.int 1 ∷ T.atom (codes "a") ∷ T.int 2 ∷ [])) ∷ T.filter (T.binary B.Gt (T.binary B.Add (T.var (codes "X")) (T.int 1)) (T.int 0)) ∷ [])) ≡ came (V.list (V.int 1 ∷ V.int 2 ∷ []))

-- [X || X <- [1, 2], X]
abbrev pub comprehensions_14 : Type 0
comprehensions_14 = outcome_of records functions (T.comprehension (T.var (codes "X")) (T.generator (P.var (codes "X")) (T.list (T.int 1 ∷ T.int 2 ∷ [])) ∷ T.filter (T.var (codes "X")) ∷ [])) ≡ came (V.list [])

-- [X || X <- [true, false, 1], X]
abbrev pub comprehensions_15 : Type 0
comprehensions_15 = outcome_of records functions (T.comprehension (T.var (codes "X")) (T.generator (P.var (codes "X")) (T.list (T.atom (codes "true") ∷ T.atom (codes "false") ∷ T.int 1 ∷ [])) ∷ T.filter (T.var (codes "X")) ∷ [])) ≡ came (V.list (V.atom (codes "true") ∷ []))

-- [X || X <- [[1], 2, []], hd(X) == 1]
abbrev pub comprehensions_16 : Type 0
comprehensions_16 = outcome_of records functions (T.comprehension (T.var (codes "X")) (T.generator (P.var (codes "X")) (T.list (T.list (T.int 1 ∷ []) ∷ T.int 2 ∷ T.list [] ∷ [])) ∷ T.filter (T.binary B.Eq (T.call (codes "hd") (T.var (codes "X") ∷ [])) (T.int 1)) ∷ [])) ≡ came (V.list (V.list (V.int 1 ∷ []) ∷ []))

-- [X || X <- [1, 2], true]
abbrev pub comprehensions_17 : Type 0
comprehensions_17 = outcome_of records functions (T.comprehension (T.var (codes "X")) (T.generator (P.var (codes "X")) (T.list (T.int 1 ∷ T.int 2 ∷ [])) ∷ T.filter (T.atom (codes "true")) ∷ [])) ≡ came (V.list (V.int 1 ∷ V.int 2 ∷ []))

-- [X || X <- [1, 2], false]
abbrev pub comprehensions_18 : Type 0
comprehensions_18 = outcome_of records functions (T.comprehension (T.var (codes "X")) (T.generator (P.var (codes "X")) (T.list (T.int 1 ∷ T.int 2 ∷ [])) ∷ T.filter (T.atom (codes "false")) ∷ [])) ≡ came (V.list [])

-- [a || true]
abbrev pub comprehensions_19 : Type 0
comprehensions_19 = outcome_of records functions (T.comprehension (T.atom (codes "a")) (T.filter (T.atom (codes "true")) ∷ [])) ≡ came (V.list (V.atom (codes "a") ∷ []))

-- [a || false]
abbrev pub comprehensions_20 : Type 0
comprehensions_20 = outcome_of records functions (T.comprehension (T.atom (codes "a")) (T.filter (T.atom (codes "false")) ∷ [])) ≡ came (V.list [])

-- [a || 1]
abbrev pub comprehensions_21 : Type 0
comprehensions_21 = outcome_of records functions (T.comprehension (T.atom (codes "a")) (T.filter (T.int 1) ∷ [])) ≡ came (V.list [])

-- [X || X <- [a, 1], is_atom(X) orelse X + 1 == 2]
abbrev pub comprehensions_22 : Type 0
comprehensions_22 = outcome_of records functions (T.comprehension (T.var (codes "X")) (T.generator (P.var (codes "X")) (T.list (T.atom (codes "a") ∷ T.int 1 ∷ [])) ∷ T.filter (T.binary B.Orelse (T.call (codes "is_atom") (T.var (codes "X") ∷ [])) (T.binary B.Eq (T.binary B.Add (T.var (codes "X")) (T.int 1)) (T.int 2))) ∷ [])) ≡ came (V.list (V.atom (codes "a") ∷ V.int 1 ∷ []))

-- [X || X <- [0, 1], not (1 div X == 1)]
abbrev pub comprehensions_23 : Type 0
comprehensions_23 = outcome_of records functions (T.comprehension (T.var (codes "X")) (T.generator (P.var (codes "X")) (T.list (T.int 0 ∷ T.int 1 ∷ [])) ∷ T.filter (T.unary U.Not (T.paren (T.binary B.Eq (T.binary B.Div (T.int 1) (T.var (codes "X"))) (T.int 1)))) ∷ [])) ≡ came (V.list [])

-- [X || X <- [0, 1], case 1 div X of _ -> true end]
abbrev pub comprehensions_24 : Type 0
comprehensions_24 = outcome_of records functions (T.comprehension (T.var (codes "X")) (T.generator (P.var (codes "X")) (T.list (T.int 0 ∷ T.int 1 ∷ [])) ∷ T.filter (T.case_of (T.binary B.Div (T.int 1) (T.var (codes "X"))) (T.clause (P.var (codes "_") ∷ []) (T.value (T.atom (codes "true")) ∷ []) ∷ [])) ∷ [])) ≡ raised error (V.atom (codes "badarith"))

-- [X || X <- [0, 1], [1 div X] ++ [] == [1]]
abbrev pub comprehensions_25 : Type 0
comprehensions_25 = outcome_of records functions (T.comprehension (T.var (codes "X")) (T.generator (P.var (codes "X")) (T.list (T.int 0 ∷ T.int 1 ∷ [])) ∷ T.filter (T.binary B.Eq (T.binary B.Append (T.list (T.binary B.Div (T.int 1) (T.var (codes "X")) ∷ [])) (T.list [])) (T.list (T.int 1 ∷ []))) ∷ [])) ≡ raised error (V.atom (codes "badarith"))

-- [F || F <- [a, b], erlang:is_atom(F), is_function(F, 1)]
abbrev pub comprehensions_26 : Type 0
comprehensions_26 = outcome_of records functions (T.comprehension (T.var (codes "F")) (T.generator (P.var (codes "F")) (T.list (T.atom (codes "a") ∷ T.atom (codes "b") ∷ [])) ∷ T.filter (T.erlang_call (codes "is_atom") (T.var (codes "F") ∷ [])) ∷ T.filter (T.call (codes "is_function") (T.var (codes "F") ∷ T.int 1 ∷ [])) ∷ [])) ≡ came (V.list [])

-- [X || {X, a} <- [{1, a}, {2, b}, 3, {4, a}]]
abbrev pub comprehensions_27 : Type 0
comprehensions_27 = outcome_of records functions (T.comprehension (T.var (codes "X")) (T.generator (P.tuple (P.var (codes "X") ∷ P.atom (codes "a") ∷ [])) (T.list (T.tuple (T.int 1 ∷ T.atom (codes "a") ∷ []) ∷ T.tuple (T.int 2 ∷ T.atom (codes "b") ∷ []) ∷ T.int 3 ∷ T.tuple (T.int 4 ∷ T.atom (codes "a") ∷ []) ∷ [])) ∷ [])) ≡ came (V.list (V.int 1 ∷ V.int 4 ∷ []))

-- [X || {X, X} <- [{1, 1}, {1, 2}, {3, 3}]]
abbrev pub comprehensions_28 : Type 0
comprehensions_28 = outcome_of records functions (T.comprehension (T.var (codes "X")) (T.generator (P.tuple (P.var (codes "X") ∷ P.var (codes "X") ∷ [])) (T.list (T.tuple (T.int 1 ∷ T.int 1 ∷ []) ∷ T.tuple (T.int 1 ∷ T.int 2 ∷ []) ∷ T.tuple (T.int 3 ∷ T.int 3 ∷ []) ∷ [])) ∷ [])) ≡ came (V.list (V.int 1 ∷ V.int 3 ∷ []))

-- [X || [X | _] <- [[1], [], [2 | 3], a]]
abbrev pub comprehensions_29 : Type 0
comprehensions_29 = outcome_of records functions (T.comprehension (T.var (codes "X")) (T.generator (P.list_onto (P.var (codes "X") ∷ []) (P.var (codes "_"))) (T.list (T.list (T.int 1 ∷ []) ∷ T.list [] ∷ T.list_onto (T.int 2 ∷ []) (T.int 3) ∷ T.atom (codes "a") ∷ [])) ∷ [])) ≡ came (V.list (V.int 1 ∷ V.int 2 ∷ []))

-- [X || #{k := X} <- [#{k => 1}, #{}, #{k => 2, l => 3}]]
abbrev pub comprehensions_30 : Type 0
comprehensions_30 = outcome_of records functions (T.comprehension (T.var (codes "X")) (T.generator (P.map (P.at_atom (codes "k") (P.var (codes "X")) ∷ [])) (T.list (T.map_new (T.sets (T.atom (codes "k")) (T.int 1) ∷ []) ∷ T.map_new [] ∷ T.map_new (T.sets (T.atom (codes "k")) (T.int 2) ∷ T.sets (T.atom (codes "l")) (T.int 3) ∷ []) ∷ [])) ∷ [])) ≡ came (V.list (V.int 1 ∷ V.int 2 ∷ []))

-- [X || 1 = X <- [1, 2, 1]]
abbrev pub comprehensions_31 : Type 0
comprehensions_31 = outcome_of records functions (T.comprehension (T.var (codes "X")) (T.generator (P.alias (P.int 1) (P.var (codes "X"))) (T.list (T.int 1 ∷ T.int 2 ∷ T.int 1 ∷ [])) ∷ [])) ≡ came (V.list (V.int 1 ∷ V.int 1 ∷ []))

-- [C || C <- "abc", C > $a]
abbrev pub comprehensions_32 : Type 0
comprehensions_32 = outcome_of records functions (T.comprehension (T.var (codes "C")) (T.generator (P.var (codes "C")) (T.text (codes "abc")) ∷ T.filter (T.binary B.Gt (T.var (codes "C")) (T.char 97)) ∷ [])) ≡ came (V.list (V.int 98 ∷ V.int 99 ∷ []))

-- begin X = 5, [X || X <- [1, 2]] end
abbrev pub comprehensions_33 : Type 0
comprehensions_33 = outcome_of records functions (T.begin_of (T.match (P.var (codes "X")) (T.int 5) ∷ T.value (T.comprehension (T.var (codes "X")) (T.generator (P.var (codes "X")) (T.list (T.int 1 ∷ T.int 2 ∷ [])) ∷ [])) ∷ [])) ≡ came (V.list (V.int 1 ∷ V.int 2 ∷ []))

-- begin X = 5, {[X || X <- [1, 2]], X} end
abbrev pub comprehensions_34 : Type 0
comprehensions_34 = outcome_of records functions (T.begin_of (T.match (P.var (codes "X")) (T.int 5) ∷ T.value (T.tuple (T.comprehension (T.var (codes "X")) (T.generator (P.var (codes "X")) (T.list (T.int 1 ∷ T.int 2 ∷ [])) ∷ []) ∷ T.var (codes "X") ∷ [])) ∷ [])) ≡ came (V.tuple (V.list (V.int 1 ∷ V.int 2 ∷ []) ∷ V.int 5 ∷ []))

-- begin X = 1, [Y || {X, Y} <- [{1, 2}, {2, 3}]] end
abbrev pub comprehensions_35 : Type 0
comprehensions_35 = outcome_of records functions (T.begin_of (T.match (P.var (codes "X")) (T.int 1) ∷ T.value (T.comprehension (T.var (codes "Y")) (T.generator (P.tuple (P.var (codes "X") ∷ P.var (codes "Y") ∷ [])) (T.list (T.tuple (T.int 1 ∷ T.int 2 ∷ []) ∷ T.tuple (T.int 2 ∷ T.int 3 ∷ []) ∷ [])) ∷ [])) ∷ [])) ≡ came (V.list (V.int 2 ∷ V.int 3 ∷ []))

-- begin X = [1, 2], [X || X <- X] end
abbrev pub comprehensions_36 : Type 0
comprehensions_36 = outcome_of records functions (T.begin_of (T.match (P.var (codes "X")) (T.list (T.int 1 ∷ T.int 2 ∷ [])) ∷ T.value (T.comprehension (T.var (codes "X")) (T.generator (P.var (codes "X")) (T.var (codes "X")) ∷ [])) ∷ [])) ≡ came (V.list (V.int 1 ∷ V.int 2 ∷ []))

-- begin X = 1, [Y || Y <- [X, 2], Y >= X] end
abbrev pub comprehensions_37 : Type 0
comprehensions_37 = outcome_of records functions (T.begin_of (T.match (P.var (codes "X")) (T.int 1) ∷ T.value (T.comprehension (T.var (codes "Y")) (T.generator (P.var (codes "Y")) (T.list (T.var (codes "X") ∷ T.int 2 ∷ [])) ∷ T.filter (T.binary B.Ge (T.var (codes "Y")) (T.var (codes "X"))) ∷ [])) ∷ [])) ≡ came (V.list (V.int 1 ∷ V.int 2 ∷ []))

-- [X || X <- [1, 2], X <- [X + 10, X + 20]]
abbrev pub comprehensions_38 : Type 0
comprehensions_38 = outcome_of records functions (T.comprehension (T.var (codes "X")) (T.generator (P.var (codes "X")) (T.list (T.int 1 ∷ T.int 2 ∷ [])) ∷ T.generator (P.var (codes "X")) (T.list (T.binary B.Add (T.var (codes "X")) (T.int 10) ∷ T.binary B.Add (T.var (codes "X")) (T.int 20) ∷ [])) ∷ [])) ≡ came (V.list (V.int 11 ∷ V.int 21 ∷ V.int 12 ∷ V.int 22 ∷ []))

-- [[Y || Y <- [1, X]] || X <- [2, 3]]
abbrev pub comprehensions_39 : Type 0
comprehensions_39 = outcome_of records functions (T.comprehension (T.comprehension (T.var (codes "Y")) (T.generator (P.var (codes "Y")) (T.list (T.int 1 ∷ T.var (codes "X") ∷ [])) ∷ [])) (T.generator (P.var (codes "X")) (T.list (T.int 2 ∷ T.int 3 ∷ [])) ∷ [])) ≡ came (V.list (V.list (V.int 1 ∷ V.int 2 ∷ []) ∷ V.list (V.int 1 ∷ V.int 3 ∷ []) ∷ []))

-- [X || X <- [Y + 1 || Y <- [1, 2, 3], Y > 1]]
abbrev pub comprehensions_40 : Type 0
comprehensions_40 = outcome_of records functions (T.comprehension (T.var (codes "X")) (T.generator (P.var (codes "X")) (T.comprehension (T.binary B.Add (T.var (codes "Y")) (T.int 1)) (T.generator (P.var (codes "Y")) (T.list (T.int 1 ∷ T.int 2 ∷ T.int 3 ∷ [])) ∷ T.filter (T.binary B.Gt (T.var (codes "Y")) (T.int 1)) ∷ [])) ∷ [])) ≡ came (V.list (V.int 3 ∷ V.int 4 ∷ []))

-- [begin Y = X + 1, Y * Y end || X <- [1, 2]]
abbrev pub comprehensions_41 : Type 0
comprehensions_41 = outcome_of records functions (T.comprehension (T.begin_of (T.match (P.var (codes "Y")) (T.binary B.Add (T.var (codes "X")) (T.int 1)) ∷ T.value (T.binary B.Mul (T.var (codes "Y")) (T.var (codes "Y"))) ∷ [])) (T.generator (P.var (codes "X")) (T.list (T.int 1 ∷ T.int 2 ∷ [])) ∷ [])) ≡ came (V.list (V.int 4 ∷ V.int 9 ∷ []))

-- [throw(X) || X <- [1, 2]]
abbrev pub comprehensions_42 : Type 0
comprehensions_42 = outcome_of records functions (T.comprehension (T.call (codes "throw") (T.var (codes "X") ∷ [])) (T.generator (P.var (codes "X")) (T.list (T.int 1 ∷ T.int 2 ∷ [])) ∷ [])) ≡ raised throw (V.int 1)

-- [X || X <- [1, 2], throw(X)]
abbrev pub comprehensions_43 : Type 0
comprehensions_43 = outcome_of records functions (T.comprehension (T.var (codes "X")) (T.generator (P.var (codes "X")) (T.list (T.int 1 ∷ T.int 2 ∷ [])) ∷ T.filter (T.call (codes "throw") (T.var (codes "X") ∷ [])) ∷ [])) ≡ raised throw (V.int 1)

-- [X || X <- throw(x)]
abbrev pub comprehensions_44 : Type 0
comprehensions_44 = outcome_of records functions (T.comprehension (T.var (codes "X")) (T.generator (P.var (codes "X")) (T.call (codes "throw") (T.atom (codes "x") ∷ [])) ∷ [])) ≡ raised throw (V.atom (codes "x"))

-- [X || X <- [1, 2], Y <- throw({X}), Y]
abbrev pub comprehensions_45 : Type 0
comprehensions_45 = outcome_of records functions (T.comprehension (T.var (codes "X")) (T.generator (P.var (codes "X")) (T.list (T.int 1 ∷ T.int 2 ∷ [])) ∷ T.generator (P.var (codes "Y")) (T.call (codes "throw") (T.tuple (T.var (codes "X") ∷ []) ∷ [])) ∷ T.filter (T.var (codes "Y")) ∷ [])) ≡ raised throw (V.tuple (V.int 1 ∷ []))

-- [X div Y || X <- [4, 6], Y <- [2, 0]]
abbrev pub comprehensions_46 : Type 0
comprehensions_46 = outcome_of records functions (T.comprehension (T.binary B.Div (T.var (codes "X")) (T.var (codes "Y"))) (T.generator (P.var (codes "X")) (T.list (T.int 4 ∷ T.int 6 ∷ [])) ∷ T.generator (P.var (codes "Y")) (T.list (T.int 2 ∷ T.int 0 ∷ [])) ∷ [])) ≡ raised error (V.atom (codes "badarith"))

-- [try X div Y catch error:_ -> none end || X <- [4], Y <- [2, 0]]
abbrev pub comprehensions_47 : Type 0
comprehensions_47 = outcome_of records functions (T.comprehension (T.try_of (T.value (T.binary B.Div (T.var (codes "X")) (T.var (codes "Y"))) ∷ []) [] (T.caught_as (P.atom (codes "error")) (T.clause (P.var (codes "_") ∷ []) (T.value (T.atom (codes "none")) ∷ [])) ∷ [])) (T.generator (P.var (codes "X")) (T.list (T.int 4 ∷ [])) ∷ T.generator (P.var (codes "Y")) (T.list (T.int 2 ∷ T.int 0 ∷ [])) ∷ [])) ≡ came (V.list (V.int 2 ∷ V.atom (codes "none") ∷ []))

-- length([X || X <- [1, 2, 3], Y <- [a, b], {X, Y} /= {2, b}])
abbrev pub comprehensions_48 : Type 0
comprehensions_48 = outcome_of records functions (T.call (codes "length") (T.comprehension (T.var (codes "X")) (T.generator (P.var (codes "X")) (T.list (T.int 1 ∷ T.int 2 ∷ T.int 3 ∷ [])) ∷ T.generator (P.var (codes "Y")) (T.list (T.atom (codes "a") ∷ T.atom (codes "b") ∷ [])) ∷ T.filter (T.binary B.Ne (T.tuple (T.var (codes "X") ∷ T.var (codes "Y") ∷ [])) (T.tuple (T.int 2 ∷ T.atom (codes "b") ∷ []))) ∷ []) ∷ [])) ≡ came (V.int 5)

-- all of them
abbrev pub Comprehensions : Type 0
Comprehensions = comprehensions_1 × comprehensions_2 × comprehensions_3 × comprehensions_4 × comprehensions_5 × comprehensions_6 × comprehensions_7 × comprehensions_8 × comprehensions_9 × comprehensions_10 × comprehensions_11 × comprehensions_12 × comprehensions_13 × comprehensions_14 × comprehensions_15 × comprehensions_16 × comprehensions_17 × comprehensions_18 × comprehensions_19 × comprehensions_20 × comprehensions_21 × comprehensions_22 × comprehensions_23 × comprehensions_24 × comprehensions_25 × comprehensions_26 × comprehensions_27 × comprehensions_28 × comprehensions_29 × comprehensions_30 × comprehensions_31 × comprehensions_32 × comprehensions_33 × comprehensions_34 × comprehensions_35 × comprehensions_36 × comprehensions_37 × comprehensions_38 × comprehensions_39 × comprehensions_40 × comprehensions_41 × comprehensions_42 × comprehensions_43 × comprehensions_44 × comprehensions_45 × comprehensions_46 × comprehensions_47 × comprehensions_48
