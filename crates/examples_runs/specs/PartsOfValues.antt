-- Examples of runs: built-in functions that take values apart. Written by expressions.escript.
use Rattle.std.specs.Prelude.{◌≡◌, List, [], ◌∷◌, codes}
use Rattle.erl_tree.specs.declared.form.Function.{Function}
use Rattle.erl_tree.specs.declared.form.RecDefKind.{RecDefKind}
use Rattle.erl_tree.specs.declared.expr.UnaryOp.TheVariants as U
use Rattle.erl_runs.specs.Value.{came}
use Rattle.examples_runs.specs.Trees as T
use Rattle.examples_runs.specs.Outcomes as V
use Rattle.examples_runs.specs.Outcomes.{outcome_of}

abbrev pub records : List RecDefKind
records = []

abbrev pub functions : List Function
functions = []

-- hd([1, 2])
abbrev pub parts_of_values_1 : Type 0
parts_of_values_1 = outcome_of records functions (T.call (codes "hd") (T.list (T.int 1 ∷ T.int 2 ∷ []) ∷ [])) ≡ came (V.int 1)

-- hd([[a] | b])
abbrev pub parts_of_values_2 : Type 0
parts_of_values_2 = outcome_of records functions (T.call (codes "hd") (T.list_onto (T.list (T.atom (codes "a") ∷ []) ∷ []) (T.atom (codes "b")) ∷ [])) ≡ came (V.list (V.atom (codes "a") ∷ []))

-- hd("abc")
abbrev pub parts_of_values_3 : Type 0
parts_of_values_3 = outcome_of records functions (T.call (codes "hd") (T.text (codes "abc") ∷ [])) ≡ came (V.int 97)

-- tl([1, 2])
abbrev pub parts_of_values_4 : Type 0
parts_of_values_4 = outcome_of records functions (T.call (codes "tl") (T.list (T.int 1 ∷ T.int 2 ∷ []) ∷ [])) ≡ came (V.list (V.int 2 ∷ []))

-- tl([1])
abbrev pub parts_of_values_5 : Type 0
parts_of_values_5 = outcome_of records functions (T.call (codes "tl") (T.list (T.int 1 ∷ []) ∷ [])) ≡ came (V.list [])

-- tl([1 | 2])
abbrev pub parts_of_values_6 : Type 0
parts_of_values_6 = outcome_of records functions (T.call (codes "tl") (T.list_onto (T.int 1 ∷ []) (T.int 2) ∷ [])) ≡ came (V.int 2)

-- length([])
abbrev pub parts_of_values_7 : Type 0
parts_of_values_7 = outcome_of records functions (T.call (codes "length") (T.list [] ∷ [])) ≡ came (V.int 0)

-- length([1, 2, 3])
abbrev pub parts_of_values_8 : Type 0
parts_of_values_8 = outcome_of records functions (T.call (codes "length") (T.list (T.int 1 ∷ T.int 2 ∷ T.int 3 ∷ []) ∷ [])) ≡ came (V.int 3)

-- length("four")
abbrev pub parts_of_values_9 : Type 0
parts_of_values_9 = outcome_of records functions (T.call (codes "length") (T.text (codes "four") ∷ [])) ≡ came (V.int 4)

-- length([[1, 2], [3]])
abbrev pub parts_of_values_10 : Type 0
parts_of_values_10 = outcome_of records functions (T.call (codes "length") (T.list (T.list (T.int 1 ∷ T.int 2 ∷ []) ∷ T.list (T.int 3 ∷ []) ∷ []) ∷ [])) ≡ came (V.int 2)

-- tuple_size({})
abbrev pub parts_of_values_11 : Type 0
parts_of_values_11 = outcome_of records functions (T.call (codes "tuple_size") (T.tuple [] ∷ [])) ≡ came (V.int 0)

-- tuple_size({1, {2, 3}})
abbrev pub parts_of_values_12 : Type 0
parts_of_values_12 = outcome_of records functions (T.call (codes "tuple_size") (T.tuple (T.int 1 ∷ T.tuple (T.int 2 ∷ T.int 3 ∷ []) ∷ []) ∷ [])) ≡ came (V.int 2)

-- map_size(#{})
abbrev pub parts_of_values_13 : Type 0
parts_of_values_13 = outcome_of records functions (T.call (codes "map_size") (T.map_new [] ∷ [])) ≡ came (V.int 0)

-- map_size(#{a => 1, 2 => b, a => 3})
abbrev pub parts_of_values_14 : Type 0
parts_of_values_14 = outcome_of records functions (T.call (codes "map_size") (T.map_new (T.sets (T.atom (codes "a")) (T.int 1) ∷ T.sets (T.int 2) (T.atom (codes "b")) ∷ T.sets (T.atom (codes "a")) (T.int 3) ∷ []) ∷ [])) ≡ came (V.int 2)

-- hd(tl(tl([1, 2, 3])))
abbrev pub parts_of_values_15 : Type 0
parts_of_values_15 = outcome_of records functions (T.call (codes "hd") (T.call (codes "tl") (T.call (codes "tl") (T.list (T.int 1 ∷ T.int 2 ∷ T.int 3 ∷ []) ∷ []) ∷ []) ∷ [])) ≡ came (V.int 3)

-- erlang:hd([1])
abbrev pub parts_of_values_16 : Type 0
parts_of_values_16 = outcome_of records functions (T.erlang_call (codes "hd") (T.list (T.int 1 ∷ []) ∷ [])) ≡ came (V.int 1)

-- erlang:length([1, 2])
abbrev pub parts_of_values_17 : Type 0
parts_of_values_17 = outcome_of records functions (T.erlang_call (codes "length") (T.list (T.int 1 ∷ T.int 2 ∷ []) ∷ [])) ≡ came (V.int 2)

-- erlang:abs(-1)
abbrev pub parts_of_values_18 : Type 0
parts_of_values_18 = outcome_of records functions (T.erlang_call (codes "abs") (T.unary U.Minus (T.int 1) ∷ [])) ≡ came (V.int 1)

-- all of them
abbrev pub PartsOfValues : Type 0
PartsOfValues = parts_of_values_1 × parts_of_values_2 × parts_of_values_3 × parts_of_values_4 × parts_of_values_5 × parts_of_values_6 × parts_of_values_7 × parts_of_values_8 × parts_of_values_9 × parts_of_values_10 × parts_of_values_11 × parts_of_values_12 × parts_of_values_13 × parts_of_values_14 × parts_of_values_15 × parts_of_values_16 × parts_of_values_17 × parts_of_values_18
