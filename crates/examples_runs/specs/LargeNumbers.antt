-- Examples of runs: integers beyond the limit of the texts. Written by expressions.escript.
use Rattle.std.specs.Prelude.{◌≡◌, List, [], ◌∷◌, codes}
use Rattle.erl_tree.specs.declared.form.Function.{Function}
use Rattle.erl_tree.specs.declared.form.RecDefKind.{RecDefKind}
use Rattle.erl_tree.specs.declared.expr.UnaryOp.TheVariants as U
use Rattle.erl_tree.specs.declared.expr.BinaryOp.TheVariants as B
use Rattle.erl_runs.specs.Value.{came}
use Rattle.examples_runs.specs.Trees as T
use Rattle.examples_runs.specs.Outcomes as V
use Rattle.examples_runs.specs.Outcomes.{outcome_of}

abbrev pub records : List RecDefKind
records = []

abbrev pub functions : List Function
functions = []

-- 170141183460469231731687303715884105726 * 170141183460469231731687303715884105726
abbrev pub large_numbers_1 : Type 0
large_numbers_1 = outcome_of records functions (T.binary B.Mul (T.int 170141183460469231731687303715884105726) (T.int 170141183460469231731687303715884105726)) ≡ came (V.int 28948022309329048855892746252171976962636931432568264082937646787114745987076)

-- 0 - 170141183460469231731687303715884105726 - 170141183460469231731687303715884105726
abbrev pub large_numbers_2 : Type 0
large_numbers_2 = outcome_of records functions (T.binary B.Sub (T.binary B.Sub (T.int 0) (T.int 170141183460469231731687303715884105726)) (T.int 170141183460469231731687303715884105726)) ≡ came (V.minus 340282366920938463463374607431768211452)

-- 170141183460469231731687303715884105726 div 7
abbrev pub large_numbers_3 : Type 0
large_numbers_3 = outcome_of records functions (T.binary B.Div (T.int 170141183460469231731687303715884105726) (T.int 7)) ≡ came (V.int 24305883351495604533098186245126300818)

-- -170141183460469231731687303715884105726 rem 1000
abbrev pub large_numbers_4 : Type 0
large_numbers_4 = outcome_of records functions (T.binary B.Rem (T.unary U.Minus (T.int 170141183460469231731687303715884105726)) (T.int 1000)) ≡ came (V.minus 726)

-- abs(-170141183460469231731687303715884105726)
abbrev pub large_numbers_5 : Type 0
large_numbers_5 = outcome_of records functions (T.call (codes "abs") (T.unary U.Minus (T.int 170141183460469231731687303715884105726) ∷ [])) ≡ came (V.int 170141183460469231731687303715884105726)

-- all of them
abbrev pub LargeNumbers : Type 0
LargeNumbers = large_numbers_1 × large_numbers_2 × large_numbers_3 × large_numbers_4 × large_numbers_5
