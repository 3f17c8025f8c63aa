-- Examples of runs: lists put together. Written by expressions.escript.
use Rattle.std.specs.Prelude.{◌≡◌, List, [], ◌∷◌, codes}
use Rattle.erl_tree.specs.declared.form.Function.{Function}
use Rattle.erl_tree.specs.declared.form.RecDefKind.{RecDefKind}
use Rattle.erl_tree.specs.declared.expr.BinaryOp.TheVariants as B
use Rattle.erl_runs.specs.Value.{came}
use Rattle.examples_runs.specs.Trees as T
use Rattle.examples_runs.specs.Outcomes as V
use Rattle.examples_runs.specs.Outcomes.{outcome_of}

abbrev pub records : List RecDefKind
records = []

abbrev pub functions : List Function
functions = []

-- [1, 2] ++ [3]
abbrev pub appending_1 : Type 0
appending_1 = outcome_of records functions (T.binary B.Append (T.list (T.int 1 ∷ T.int 2 ∷ [])) (T.list (T.int 3 ∷ []))) ≡ came (V.list (V.int 1 ∷ V.int 2 ∷ V.int 3 ∷ []))

-- [] ++ []
abbrev pub appending_2 : Type 0
appending_2 = outcome_of records functions (T.binary B.Append (T.list []) (T.list [])) ≡ came (V.list [])

-- [] ++ [1]
abbrev pub appending_3 : Type 0
appending_3 = outcome_of records functions (T.binary B.Append (T.list []) (T.list (T.int 1 ∷ []))) ≡ came (V.list (V.int 1 ∷ []))

-- [1] ++ []
abbrev pub appending_4 : Type 0
appending_4 = outcome_of records functions (T.binary B.Append (T.list (T.int 1 ∷ [])) (T.list [])) ≡ came (V.list (V.int 1 ∷ []))

-- [1] ++ 2
abbrev pub appending_5 : Type 0
appending_5 = outcome_of records functions (T.binary B.Append (T.list (T.int 1 ∷ [])) (T.int 2)) ≡ came (V.list_onto (V.int 1 ∷ []) (V.int 2))

-- [] ++ a
abbrev pub appending_6 : Type 0
appending_6 = outcome_of records functions (T.binary B.Append (T.list []) (T.atom (codes "a"))) ≡ came (V.atom (codes "a"))

-- [1, 2] ++ [3 | 4]
abbrev pub appending_7 : Type 0
appending_7 = outcome_of records functions (T.binary B.Append (T.list (T.int 1 ∷ T.int 2 ∷ [])) (T.list_onto (T.int 3 ∷ []) (T.int 4))) ≡ came (V.list_onto (V.int 1 ∷ V.int 2 ∷ V.int 3 ∷ []) (V.int 4))

-- [1] ++ [2] ++ [3]
abbrev pub appending_8 : Type 0
appending_8 = outcome_of records functions (T.binary B.Append (T.list (T.int 1 ∷ [])) (T.binary B.Append (T.list (T.int 2 ∷ [])) (T.list (T.int 3 ∷ [])))) ≡ came (V.list (V.int 1 ∷ V.int 2 ∷ V.int 3 ∷ []))

-- ([1] ++ [2]) ++ [3]
abbrev pub appending_9 : Type 0
appending_9 = outcome_of records functions (T.binary B.Append (T.paren (T.binary B.Append (T.list (T.int 1 ∷ [])) (T.list (T.int 2 ∷ [])))) (T.list (T.int 3 ∷ []))) ≡ came (V.list (V.int 1 ∷ V.int 2 ∷ V.int 3 ∷ []))

-- "ab" ++ "c" ++ ""
abbrev pub appending_10 : Type 0
appending_10 = outcome_of records functions (T.binary B.Append (T.text (codes "ab")) (T.binary B.Append (T.text (codes "c")) (T.text []))) ≡ came (V.list (V.int 97 ∷ V.int 98 ∷ V.int 99 ∷ []))

-- [[1]] ++ [[2], []]
abbrev pub appending_11 : Type 0
appending_11 = outcome_of records functions (T.binary B.Append (T.list (T.list (T.int 1 ∷ []) ∷ [])) (T.list (T.list (T.int 2 ∷ []) ∷ T.list [] ∷ []))) ≡ came (V.list (V.list (V.int 1 ∷ []) ∷ V.list (V.int 2 ∷ []) ∷ V.list [] ∷ []))

-- all of them
abbrev pub Appending : Type 0
Appending = appending_1 × appending_2 × appending_3 × appending_4 × appending_5 × appending_6 × appending_7 × appending_8 × appending_9 × appending_10 × appending_11
