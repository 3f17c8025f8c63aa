-- Examples of runs: sums, products, quotients and remainders. Written by expressions.escript.
use Rattle.std.specs.Prelude.{◌≡◌, List, [], ◌∷◌, codes}
use Rattle.erl_tree.specs.declared.form.Function.{Function}
use Rattle.erl_tree.specs.declared.form.RecDefKind.{RecDefKind}
use Rattle.erl_tree.specs.declared.expr.UnaryOp.TheVariants as U
use Rattle.erl_tree.specs.declared.expr.BinaryOp.TheVariants as B
use Rattle.erl_runs.specs.Value.{came, raised, error}
use Rattle.examples_runs.specs.Trees as T
use Rattle.examples_runs.specs.Outcomes as V
use Rattle.examples_runs.specs.Outcomes.{outcome_of}

abbrev pub records : List RecDefKind
records = []

abbrev pub functions : List Function
functions = []

-- 1 + 2
abbrev pub arithmetic_1 : Type 0
arithmetic_1 = outcome_of records functions (T.binary B.Add (T.int 1) (T.int 2)) ≡ came (V.int 3)

-- 1 - 2
abbrev pub arithmetic_2 : Type 0
arithmetic_2 = outcome_of records functions (T.binary B.Sub (T.int 1) (T.int 2)) ≡ came (V.minus 1)

-- 3 * -4
abbrev pub arithmetic_3 : Type 0
arithmetic_3 = outcome_of records functions (T.binary B.Mul (T.int 3) (T.unary U.Minus (T.int 4))) ≡ came (V.minus 12)

-- + 3
abbrev pub arithmetic_4 : Type 0
arithmetic_4 = outcome_of records functions (T.unary U.Plus (T.int 3)) ≡ came (V.int 3)

-- - 5
abbrev pub arithmetic_5 : Type 0
arithmetic_5 = outcome_of records functions (T.unary U.Minus (T.int 5)) ≡ came (V.minus 5)

-- -(-5)
abbrev pub arithmetic_6 : Type 0
arithmetic_6 = outcome_of records functions (T.unary U.Minus (T.paren (T.unary U.Minus (T.int 5)))) ≡ came (V.int 5)

-- -0
abbrev pub arithmetic_7 : Type 0
arithmetic_7 = outcome_of records functions (T.unary U.Minus (T.int 0)) ≡ came (V.int 0)

-- 2 + 3 * 4 - 5
abbrev pub arithmetic_8 : Type 0
arithmetic_8 = outcome_of records functions (T.binary B.Sub (T.binary B.Add (T.int 2) (T.binary B.Mul (T.int 3) (T.int 4))) (T.int 5)) ≡ came (V.int 9)

-- (2 + 3) * (4 - 5)
abbrev pub arithmetic_9 : Type 0
arithmetic_9 = outcome_of records functions (T.binary B.Mul (T.paren (T.binary B.Add (T.int 2) (T.int 3))) (T.paren (T.binary B.Sub (T.int 4) (T.int 5)))) ≡ came (V.minus 5)

-- 7 div 2
abbrev pub arithmetic_10 : Type 0
arithmetic_10 = outcome_of records functions (T.binary B.Div (T.int 7) (T.int 2)) ≡ came (V.int 3)

-- -7 div 2
abbrev pub arithmetic_11 : Type 0
arithmetic_11 = outcome_of records functions (T.binary B.Div (T.unary U.Minus (T.int 7)) (T.int 2)) ≡ came (V.minus 3)

-- 7 div -2
abbrev pub arithmetic_12 : Type 0
arithmetic_12 = outcome_of records functions (T.binary B.Div (T.int 7) (T.unary U.Minus (T.int 2))) ≡ came (V.minus 3)

-- -7 div -2
abbrev pub arithmetic_13 : Type 0
arithmetic_13 = outcome_of records functions (T.binary B.Div (T.unary U.Minus (T.int 7)) (T.unary U.Minus (T.int 2))) ≡ came (V.int 3)

-- 6 div 3
abbrev pub arithmetic_14 : Type 0
arithmetic_14 = outcome_of records functions (T.binary B.Div (T.int 6) (T.int 3)) ≡ came (V.int 2)

-- 0 div 5
abbrev pub arithmetic_15 : Type 0
arithmetic_15 = outcome_of records functions (T.binary B.Div (T.int 0) (T.int 5)) ≡ came (V.int 0)

-- 7 rem 2
abbrev pub arithmetic_16 : Type 0
arithmetic_16 = outcome_of records functions (T.binary B.Rem (T.int 7) (T.int 2)) ≡ came (V.int 1)

-- -7 rem 2
abbrev pub arithmetic_17 : Type 0
arithmetic_17 = outcome_of records functions (T.binary B.Rem (T.unary U.Minus (T.int 7)) (T.int 2)) ≡ came (V.minus 1)

-- 7 rem -2
abbrev pub arithmetic_18 : Type 0
arithmetic_18 = outcome_of records functions (T.binary B.Rem (T.int 7) (T.unary U.Minus (T.int 2))) ≡ came (V.int 1)

-- -7 rem -2
abbrev pub arithmetic_19 : Type 0
arithmetic_19 = outcome_of records functions (T.binary B.Rem (T.unary U.Minus (T.int 7)) (T.unary U.Minus (T.int 2))) ≡ came (V.minus 1)

-- 6 rem 3
abbrev pub arithmetic_20 : Type 0
arithmetic_20 = outcome_of records functions (T.binary B.Rem (T.int 6) (T.int 3)) ≡ came (V.int 0)

-- 0 rem 5
abbrev pub arithmetic_21 : Type 0
arithmetic_21 = outcome_of records functions (T.binary B.Rem (T.int 0) (T.int 5)) ≡ came (V.int 0)

-- 1 div 0
abbrev pub arithmetic_22 : Type 0
arithmetic_22 = outcome_of records functions (T.binary B.Div (T.int 1) (T.int 0)) ≡ raised error (V.atom (codes "badarith"))

-- -1 div 0
abbrev pub arithmetic_23 : Type 0
arithmetic_23 = outcome_of records functions (T.binary B.Div (T.unary U.Minus (T.int 1)) (T.int 0)) ≡ raised error (V.atom (codes "badarith"))

-- 0 div 0
abbrev pub arithmetic_24 : Type 0
arithmetic_24 = outcome_of records functions (T.binary B.Div (T.int 0) (T.int 0)) ≡ raised error (V.atom (codes "badarith"))

-- 1 rem 0
abbrev pub arithmetic_25 : Type 0
arithmetic_25 = outcome_of records functions (T.binary B.Rem (T.int 1) (T.int 0)) ≡ raised error (V.atom (codes "badarith"))

-- 0 rem 0
abbrev pub arithmetic_26 : Type 0
arithmetic_26 = outcome_of records functions (T.binary B.Rem (T.int 0) (T.int 0)) ≡ raised error (V.atom (codes "badarith"))

-- 1 + 2 div 0
abbrev pub arithmetic_27 : Type 0
arithmetic_27 = outcome_of records functions (T.binary B.Add (T.int 1) (T.binary B.Div (T.int 2) (T.int 0))) ≡ raised error (V.atom (codes "badarith"))

-- abs(-3)
abbrev pub arithmetic_28 : Type 0
arithmetic_28 = outcome_of records functions (T.call (codes "abs") (T.unary U.Minus (T.int 3) ∷ [])) ≡ came (V.int 3)

-- abs(3)
abbrev pub arithmetic_29 : Type 0
arithmetic_29 = outcome_of records functions (T.call (codes "abs") (T.int 3 ∷ [])) ≡ came (V.int 3)

-- abs(0)
abbrev pub arithmetic_30 : Type 0
arithmetic_30 = outcome_of records functions (T.call (codes "abs") (T.int 0 ∷ [])) ≡ came (V.int 0)

-- all of them
abbrev pub Arithmetic : Type 0
Arithmetic = arithmetic_1 × arithmetic_2 × arithmetic_3 × arithmetic_4 × arithmetic_5 × arithmetic_6 × arithmetic_7 × arithmetic_8 × arithmetic_9 × arithmetic_10 × arithmetic_11 × arithmetic_12 × arithmetic_13 × arithmetic_14 × arithmetic_15 × arithmetic_16 × arithmetic_17 × arithmetic_18 × arithmetic_19 × arithmetic_20 × arithmetic_21 × arithmetic_22 × arithmetic_23 × arithmetic_24 × arithmetic_25 × arithmetic_26 × arithmetic_27 × arithmetic_28 × arithmetic_29 × arithmetic_30
