-- Examples of runs: strict and lazy boolean operators. Written by expressions.escript.
use Rattle.std.specs.Prelude.{◌≡◌, List, [], ◌∷◌, codes}
use Rattle.erl_tree.specs.declared.form.Function.{Function}
use Rattle.erl_tree.specs.declared.form.RecDefKind.{RecDefKind}
use Rattle.erl_tree.specs.declared.expr.UnaryOp.TheVariants as U
use Rattle.erl_tree.specs.declared.expr.BinaryOp.TheVariants as B
use Rattle.erl_runs.specs.Value.{came, raised, error, throw}
use Rattle.examples_runs.specs.Trees as T
use Rattle.examples_runs.specs.Patterns as P
use Rattle.examples_runs.specs.Outcomes as V
use Rattle.examples_runs.specs.Outcomes.{outcome_of}

abbrev pub records : List RecDefKind
records = []

abbrev pub functions : List Function
functions = []

-- true and false
abbrev pub booleans_1 : Type 0
booleans_1 = outcome_of records functions (T.binary B.And (T.atom (codes "true")) (T.atom (codes "false"))) ≡ came (V.atom (codes "false"))

-- true and true
abbrev pub booleans_2 : Type 0
booleans_2 = outcome_of records functions (T.binary B.And (T.atom (codes "true")) (T.atom (codes "true"))) ≡ came (V.atom (codes "true"))

-- false or true
abbrev pub booleans_3 : Type 0
booleans_3 = outcome_of records functions (T.binary B.Or (T.atom (codes "false")) (T.atom (codes "true"))) ≡ came (V.atom (codes "true"))

-- false or false
abbrev pub booleans_4 : Type 0
booleans_4 = outcome_of records functions (T.binary B.Or (T.atom (codes "false")) (T.atom (codes "false"))) ≡ came (V.atom (codes "false"))

-- true xor true
abbrev pub booleans_5 : Type 0
booleans_5 = outcome_of records functions (T.binary B.Xor (T.atom (codes "true")) (T.atom (codes "true"))) ≡ came (V.atom (codes "false"))

-- true xor false
abbrev pub booleans_6 : Type 0
booleans_6 = outcome_of records functions (T.binary B.Xor (T.atom (codes "true")) (T.atom (codes "false"))) ≡ came (V.atom (codes "true"))

-- not true
abbrev pub booleans_7 : Type 0
booleans_7 = outcome_of records functions (T.unary U.Not (T.atom (codes "true"))) ≡ came (V.atom (codes "false"))

-- not false
abbrev pub booleans_8 : Type 0
booleans_8 = outcome_of records functions (T.unary U.Not (T.atom (codes "false"))) ≡ came (V.atom (codes "true"))

-- [{X and Y, X or Y, X xor Y} || X <- [true, false], Y <- [true, false]]
abbrev pub booleans_9 : Type 0
booleans_9 = outcome_of records functions (T.comprehension (T.tuple (T.binary B.And (T.var (codes "X")) (T.var (codes "Y")) ∷ T.binary B.Or (T.var (codes "X")) (T.var (codes "Y")) ∷ T.binary B.Xor (T.var (codes "X")) (T.var (codes "Y")) ∷ [])) (T.generator (P.var (codes "X")) (T.list (T.atom (codes "true") ∷ T.atom (codes "false") ∷ [])) ∷ T.generator (P.var (codes "Y")) (T.list (T.atom (codes "true") ∷ T.atom (codes "false") ∷ [])) ∷ [])) ≡ came (V.list (V.tuple (V.atom (codes "true") ∷ V.atom (codes "true") ∷ V.atom (codes "false") ∷ []) ∷ V.tuple (V.atom (codes "false") ∷ V.atom (codes "true") ∷ V.atom (codes "true") ∷ []) ∷ V.tuple (V.atom (codes "false") ∷ V.atom (codes "true") ∷ V.atom (codes "true") ∷ []) ∷ V.tuple (V.atom (codes "false") ∷ V.atom (codes "false") ∷ V.atom (codes "false") ∷ []) ∷ []))

-- [{X andalso Y, X orelse Y} || X <- [true, false], Y <- [true, false]]
abbrev pub booleans_10 : Type 0
booleans_10 = outcome_of records functions (T.comprehension (T.tuple (T.binary B.Andalso (T.var (codes "X")) (T.var (codes "Y")) ∷ T.binary B.Orelse (T.var (codes "X")) (T.var (codes "Y")) ∷ [])) (T.generator (P.var (codes "X")) (T.list (T.atom (codes "true") ∷ T.atom (codes "false") ∷ [])) ∷ T.generator (P.var (codes "Y")) (T.list (T.atom (codes "true") ∷ T.atom (codes "false") ∷ [])) ∷ [])) ≡ came (V.list (V.tuple (V.atom (codes "true") ∷ V.atom (codes "true") ∷ []) ∷ V.tuple (V.atom (codes "false") ∷ V.atom (codes "true") ∷ []) ∷ V.tuple (V.atom (codes "false") ∷ V.atom (codes "true") ∷ []) ∷ V.tuple (V.atom (codes "false") ∷ V.atom (codes "false") ∷ []) ∷ []))

-- false and throw(x)
abbrev pub booleans_11 : Type 0
booleans_11 = outcome_of records functions (T.binary B.And (T.atom (codes "false")) (T.call (codes "throw") (T.atom (codes "x") ∷ []))) ≡ raised throw (V.atom (codes "x"))

-- true or throw(x)
abbrev pub booleans_12 : Type 0
booleans_12 = outcome_of records functions (T.binary B.Or (T.atom (codes "true")) (T.call (codes "throw") (T.atom (codes "x") ∷ []))) ≡ raised throw (V.atom (codes "x"))

-- false xor throw(x)
abbrev pub booleans_13 : Type 0
booleans_13 = outcome_of records functions (T.binary B.Xor (T.atom (codes "false")) (T.call (codes "throw") (T.atom (codes "x") ∷ []))) ≡ raised throw (V.atom (codes "x"))

-- false andalso throw(x)
abbrev pub booleans_14 : Type 0
booleans_14 = outcome_of records functions (T.binary B.Andalso (T.atom (codes "false")) (T.call (codes "throw") (T.atom (codes "x") ∷ []))) ≡ came (V.atom (codes "false"))

-- true andalso throw(x)
abbrev pub booleans_15 : Type 0
booleans_15 = outcome_of records functions (T.binary B.Andalso (T.atom (codes "true")) (T.call (codes "throw") (T.atom (codes "x") ∷ []))) ≡ raised throw (V.atom (codes "x"))

-- true orelse throw(x)
abbrev pub booleans_16 : Type 0
booleans_16 = outcome_of records functions (T.binary B.Orelse (T.atom (codes "true")) (T.call (codes "throw") (T.atom (codes "x") ∷ []))) ≡ came (V.atom (codes "true"))

-- false orelse throw(x)
abbrev pub booleans_17 : Type 0
booleans_17 = outcome_of records functions (T.binary B.Orelse (T.atom (codes "false")) (T.call (codes "throw") (T.atom (codes "x") ∷ []))) ≡ raised throw (V.atom (codes "x"))

-- throw(x) andalso false
abbrev pub booleans_18 : Type 0
booleans_18 = outcome_of records functions (T.binary B.Andalso (T.call (codes "throw") (T.atom (codes "x") ∷ [])) (T.atom (codes "false"))) ≡ raised throw (V.atom (codes "x"))

-- throw(x) orelse true
abbrev pub booleans_19 : Type 0
booleans_19 = outcome_of records functions (T.binary B.Orelse (T.call (codes "throw") (T.atom (codes "x") ∷ [])) (T.atom (codes "true"))) ≡ raised throw (V.atom (codes "x"))

-- true andalso 7
abbrev pub booleans_20 : Type 0
booleans_20 = outcome_of records functions (T.binary B.Andalso (T.atom (codes "true")) (T.int 7)) ≡ came (V.int 7)

-- false orelse [a]
abbrev pub booleans_21 : Type 0
booleans_21 = outcome_of records functions (T.binary B.Orelse (T.atom (codes "false")) (T.list (T.atom (codes "a") ∷ []))) ≡ came (V.list (V.atom (codes "a") ∷ []))

-- false andalso 7
abbrev pub booleans_22 : Type 0
booleans_22 = outcome_of records functions (T.binary B.Andalso (T.atom (codes "false")) (T.int 7)) ≡ came (V.atom (codes "false"))

-- true orelse 7
abbrev pub booleans_23 : Type 0
booleans_23 = outcome_of records functions (T.binary B.Orelse (T.atom (codes "true")) (T.int 7)) ≡ came (V.atom (codes "true"))

-- true andalso false orelse b
abbrev pub booleans_24 : Type 0
booleans_24 = outcome_of records functions (T.binary B.Orelse (T.binary B.Andalso (T.atom (codes "true")) (T.atom (codes "false"))) (T.atom (codes "b"))) ≡ came (V.atom (codes "b"))

-- not (1 < 2) orelse not (2 < 1)
abbrev pub booleans_25 : Type 0
booleans_25 = outcome_of records functions (T.binary B.Orelse (T.unary U.Not (T.paren (T.binary B.Lt (T.int 1) (T.int 2)))) (T.unary U.Not (T.paren (T.binary B.Lt (T.int 2) (T.int 1))))) ≡ came (V.atom (codes "true"))

-- false andalso 1 div 0
abbrev pub booleans_26 : Type 0
booleans_26 = outcome_of records functions (T.binary B.Andalso (T.atom (codes "false")) (T.binary B.Div (T.int 1) (T.int 0))) ≡ came (V.atom (codes "false"))

-- true andalso 1 div 0
abbrev pub booleans_27 : Type 0
booleans_27 = outcome_of records functions (T.binary B.Andalso (T.atom (codes "true")) (T.binary B.Div (T.int 1) (T.int 0))) ≡ raised error (V.atom (codes "badarith"))

-- all of them
abbrev pub Booleans : Type 0
Booleans = booleans_1 × booleans_2 × booleans_3 × booleans_4 × booleans_5 × booleans_6 × booleans_7 × booleans_8 × booleans_9 × booleans_10 × booleans_11 × booleans_12 × booleans_13 × booleans_14 × booleans_15 × booleans_16 × booleans_17 × booleans_18 × booleans_19 × booleans_20 × booleans_21 × booleans_22 × booleans_23 × booleans_24 × booleans_25 × booleans_26 × booleans_27
