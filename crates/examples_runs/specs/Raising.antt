-- Examples of runs: exceptions, and their classes. Written by expressions.escript.
use Rattle.std.specs.Prelude.{◌≡◌, List, [], ◌∷◌, codes}
use Rattle.erl_tree.specs.declared.form.Function.{Function}
use Rattle.erl_tree.specs.declared.form.RecDefKind.{RecDefKind}
use Rattle.erl_runs.specs.Value.{raised, error, exit, throw}
use Rattle.examples_runs.specs.Trees as T
use Rattle.examples_runs.specs.Patterns as P
use Rattle.examples_runs.specs.Outcomes as V
use Rattle.examples_runs.specs.Outcomes.{outcome_of}

-- f(X) -> throw({f, X}).

abbrev pub records : List RecDefKind
records = []

abbrev pub functions : List Function
functions = T.function (codes "f") (T.clause (P.var (codes "X") ∷ []) (T.value (T.call (codes "throw") (T.tuple (T.atom (codes "f") ∷ T.var (codes "X") ∷ []) ∷ [])) ∷ []) ∷ []) ∷ []

-- error(a)
abbrev pub raising_1 : Type 0
raising_1 = outcome_of records functions (T.call (codes "error") (T.atom (codes "a") ∷ [])) ≡ raised error (V.atom (codes "a"))

-- throw(a)
abbrev pub raising_2 : Type 0
raising_2 = outcome_of records functions (T.call (codes "throw") (T.atom (codes "a") ∷ [])) ≡ raised throw (V.atom (codes "a"))

-- exit(a)
abbrev pub raising_3 : Type 0
raising_3 = outcome_of records functions (T.call (codes "exit") (T.atom (codes "a") ∷ [])) ≡ raised exit (V.atom (codes "a"))

-- error({a, [1]})
abbrev pub raising_4 : Type 0
raising_4 = outcome_of records functions (T.call (codes "error") (T.tuple (T.atom (codes "a") ∷ T.list (T.int 1 ∷ []) ∷ []) ∷ [])) ≡ raised error (V.tuple (V.atom (codes "a") ∷ V.list (V.int 1 ∷ []) ∷ []))

-- throw([1 | 2])
abbrev pub raising_5 : Type 0
raising_5 = outcome_of records functions (T.call (codes "throw") (T.list_onto (T.int 1 ∷ []) (T.int 2) ∷ [])) ≡ raised throw (V.list_onto (V.int 1 ∷ []) (V.int 2))

-- exit(#{a => 1})
abbrev pub raising_6 : Type 0
raising_6 = outcome_of records functions (T.call (codes "exit") (T.map_new (T.sets (T.atom (codes "a")) (T.int 1) ∷ []) ∷ [])) ≡ raised exit (V.map_with (V.at_atom (codes "a") (V.int 1) ∷ []))

-- erlang:error(1)
abbrev pub raising_7 : Type 0
raising_7 = outcome_of records functions (T.erlang_call (codes "error") (T.int 1 ∷ [])) ≡ raised error (V.int 1)

-- erlang:throw("a")
abbrev pub raising_8 : Type 0
raising_8 = outcome_of records functions (T.erlang_call (codes "throw") (T.text (codes "a") ∷ [])) ≡ raised throw (V.list (V.int 97 ∷ []))

-- erlang:exit({})
abbrev pub raising_9 : Type 0
raising_9 = outcome_of records functions (T.erlang_call (codes "exit") (T.tuple [] ∷ [])) ≡ raised exit (V.tuple [])

-- error(throw(exit(a)))
abbrev pub raising_10 : Type 0
raising_10 = outcome_of records functions (T.call (codes "error") (T.call (codes "throw") (T.call (codes "exit") (T.atom (codes "a") ∷ []) ∷ []) ∷ [])) ≡ raised exit (V.atom (codes "a"))

-- f(1)
abbrev pub raising_11 : Type 0
raising_11 = outcome_of records functions (T.call (codes "f") (T.int 1 ∷ [])) ≡ raised throw (V.tuple (V.atom (codes "f") ∷ V.int 1 ∷ []))

-- f(f(1))
abbrev pub raising_12 : Type 0
raising_12 = outcome_of records functions (T.call (codes "f") (T.call (codes "f") (T.int 1 ∷ []) ∷ [])) ≡ raised throw (V.tuple (V.atom (codes "f") ∷ V.int 1 ∷ []))

-- f(error(1))
abbrev pub raising_13 : Type 0
raising_13 = outcome_of records functions (T.call (codes "f") (T.call (codes "error") (T.int 1 ∷ []) ∷ [])) ≡ raised error (V.int 1)

-- [f(X) || X <- [3, 4]]
abbrev pub raising_14 : Type 0
raising_14 = outcome_of records functions (T.comprehension (T.call (codes "f") (T.var (codes "X") ∷ [])) (T.generator (P.var (codes "X")) (T.list (T.int 3 ∷ T.int 4 ∷ [])) ∷ [])) ≡ raised throw (V.tuple (V.atom (codes "f") ∷ V.int 3 ∷ []))

-- all of them
abbrev pub Raising : Type 0
Raising = raising_1 × raising_2 × raising_3 × raising_4 × raising_5 × raising_6 × raising_7 × raising_8 × raising_9 × raising_10 × raising_11 × raising_12 × raising_13 × raising_14
