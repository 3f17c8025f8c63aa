-- Examples of runs: lists, tuples and parentheses. Written by expressions.escript.
use Rattle.std.specs.Prelude.{◌≡◌, List, [], ◌∷◌, codes}
use Rattle.erl_tree.specs.declared.form.Function.{Function}
use Rattle.erl_tree.specs.declared.form.RecDefKind.{RecDefKind}
use Rattle.erl_runs.specs.Value.{came}
use Rattle.examples_runs.specs.Trees as T
use Rattle.examples_runs.specs.Outcomes as V
use Rattle.examples_runs.specs.Outcomes.{outcome_of}

abbrev pub records : List RecDefKind
records = []

abbrev pub functions : List Function
functions = []

-- []
abbrev pub lists_and_tuples_1 : Type 0
lists_and_tuples_1 = outcome_of records functions (T.list []) ≡ came (V.list [])

-- [1]
abbrev pub lists_and_tuples_2 : Type 0
lists_and_tuples_2 = outcome_of records functions (T.list (T.int 1 ∷ [])) ≡ came (V.list (V.int 1 ∷ []))

-- [1, 2 | 3]
abbrev pub lists_and_tuples_3 : Type 0
lists_and_tuples_3 = outcome_of records functions (T.list_onto (T.int 1 ∷ T.int 2 ∷ []) (T.int 3)) ≡ came (V.list_onto (V.int 1 ∷ V.int 2 ∷ []) (V.int 3))

-- [1 | [2 | [3]]]
abbrev pub lists_and_tuples_4 : Type 0
lists_and_tuples_4 = outcome_of records functions (T.list (T.int 1 ∷ T.int 2 ∷ T.int 3 ∷ [])) ≡ came (V.list (V.int 1 ∷ V.int 2 ∷ V.int 3 ∷ []))

-- [1 | [2, 3]]
abbrev pub lists_and_tuples_5 : Type 0
lists_and_tuples_5 = outcome_of records functions (T.list (T.int 1 ∷ T.int 2 ∷ T.int 3 ∷ [])) ≡ came (V.list (V.int 1 ∷ V.int 2 ∷ V.int 3 ∷ []))

-- [a, [b, [c]], {d}]
abbrev pub lists_and_tuples_6 : Type 0
lists_and_tuples_6 = outcome_of records functions (T.list (T.atom (codes "a") ∷ T.list (T.atom (codes "b") ∷ T.list (T.atom (codes "c") ∷ []) ∷ []) ∷ T.tuple (T.atom (codes "d") ∷ []) ∷ [])) ≡ came (V.list (V.atom (codes "a") ∷ V.list (V.atom (codes "b") ∷ V.list (V.atom (codes "c") ∷ []) ∷ []) ∷ V.tuple (V.atom (codes "d") ∷ []) ∷ []))

-- {}
abbrev pub lists_and_tuples_7 : Type 0
lists_and_tuples_7 = outcome_of records functions (T.tuple []) ≡ came (V.tuple [])

-- {a}
abbrev pub lists_and_tuples_8 : Type 0
lists_and_tuples_8 = outcome_of records functions (T.tuple (T.atom (codes "a") ∷ [])) ≡ came (V.tuple (V.atom (codes "a") ∷ []))

-- {1, {2, {}}, [3]}
abbrev pub lists_and_tuples_9 : Type 0
lists_and_tuples_9 = outcome_of records functions (T.tuple (T.int 1 ∷ T.tuple (T.int 2 ∷ T.tuple [] ∷ []) ∷ T.list (T.int 3 ∷ []) ∷ [])) ≡ came (V.tuple (V.int 1 ∷ V.tuple (V.int 2 ∷ V.tuple [] ∷ []) ∷ V.list (V.int 3 ∷ []) ∷ []))

-- ((1))
abbrev pub lists_and_tuples_10 : Type 0
lists_and_tuples_10 = outcome_of records functions (T.paren (T.paren (T.int 1))) ≡ came (V.int 1)

-- {(1), [(2) | (a)]}
abbrev pub lists_and_tuples_11 : Type 0
lists_and_tuples_11 = outcome_of records functions (T.tuple (T.paren (T.int 1) ∷ T.list_onto (T.paren (T.int 2) ∷ []) (T.paren (T.atom (codes "a"))) ∷ [])) ≡ came (V.tuple (V.int 1 ∷ V.list_onto (V.int 2 ∷ []) (V.atom (codes "a")) ∷ []))

-- all of them
abbrev pub ListsAndTuples : Type 0
ListsAndTuples = lists_and_tuples_1 × lists_and_tuples_2 × lists_and_tuples_3 × lists_and_tuples_4 × lists_and_tuples_5 × lists_and_tuples_6 × lists_and_tuples_7 × lists_and_tuples_8 × lists_and_tuples_9 × lists_and_tuples_10 × lists_and_tuples_11
