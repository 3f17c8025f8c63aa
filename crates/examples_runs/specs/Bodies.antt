-- Examples of runs: elements of bodies and matches. Written by expressions.escript.
use Rattle.std.specs.Prelude.{◌≡◌, List, [], ◌∷◌, codes}
use Rattle.erl_tree.specs.declared.form.Function.{Function}
use Rattle.erl_tree.specs.declared.form.RecDefKind.{RecDefKind}
use Rattle.erl_tree.specs.declared.expr.BinaryOp.TheVariants as B
use Rattle.erl_runs.specs.Value.{came, raised, throw}
use Rattle.examples_runs.specs.Trees as T
use Rattle.examples_runs.specs.Patterns as P
use Rattle.examples_runs.specs.Outcomes as V
use Rattle.examples_runs.specs.Outcomes.{outcome_of}

abbrev pub records : List RecDefKind
records = []

abbrev pub functions : List Function
functions = []

-- begin 1 end
abbrev pub bodies_1 : Type 0
bodies_1 = outcome_of records functions (T.begin_of (T.value (T.int 1) ∷ [])) ≡ came (V.int 1)

-- begin 1, 2 end
abbrev pub bodies_2 : Type 0
bodies_2 = outcome_of records functions (T.begin_of (T.value (T.int 1) ∷ T.value (T.int 2) ∷ [])) ≡ came (V.int 2)

-- begin X = 1, X end
abbrev pub bodies_3 : Type 0
bodies_3 = outcome_of records functions (T.begin_of (T.match (P.var (codes "X")) (T.int 1) ∷ T.value (T.var (codes "X")) ∷ [])) ≡ came (V.int 1)

-- begin X = 1, Y = X + 1, {X, Y} end
abbrev pub bodies_4 : Type 0
bodies_4 = outcome_of records functions (T.begin_of (T.match (P.var (codes "X")) (T.int 1) ∷ T.match (P.var (codes "Y")) (T.binary B.Add (T.var (codes "X")) (T.int 1)) ∷ T.value (T.tuple (T.var (codes "X") ∷ T.var (codes "Y") ∷ [])) ∷ [])) ≡ came (V.tuple (V.int 1 ∷ V.int 2 ∷ []))

-- begin X = 1, X = 1 end
abbrev pub bodies_5 : Type 0
bodies_5 = outcome_of records functions (T.begin_of (T.match (P.var (codes "X")) (T.int 1) ∷ T.match (P.var (codes "X")) (T.int 1) ∷ [])) ≡ came (V.int 1)

-- begin {A, B} = {1, 2}, A + B end
abbrev pub bodies_6 : Type 0
bodies_6 = outcome_of records functions (T.begin_of (T.match (P.tuple (P.var (codes "A") ∷ P.var (codes "B") ∷ [])) (T.tuple (T.int 1 ∷ T.int 2 ∷ [])) ∷ T.value (T.binary B.Add (T.var (codes "A")) (T.var (codes "B"))) ∷ [])) ≡ came (V.int 3)

-- begin [A, B | C] = [1, 2, 3, 4], {A, B, C} end
abbrev pub bodies_7 : Type 0
bodies_7 = outcome_of records functions (T.begin_of (T.match (P.list_onto (P.var (codes "A") ∷ P.var (codes "B") ∷ []) (P.var (codes "C"))) (T.list (T.int 1 ∷ T.int 2 ∷ T.int 3 ∷ T.int 4 ∷ [])) ∷ T.value (T.tuple (T.var (codes "A") ∷ T.var (codes "B") ∷ T.var (codes "C") ∷ [])) ∷ [])) ≡ came (V.tuple (V.int 1 ∷ V.int 2 ∷ V.list (V.int 3 ∷ V.int 4 ∷ []) ∷ []))

-- begin X = 1, {X, Y} = {1, 2}, Y end
abbrev pub bodies_8 : Type 0
bodies_8 = outcome_of records functions (T.begin_of (T.match (P.var (codes "X")) (T.int 1) ∷ T.match (P.tuple (P.var (codes "X") ∷ P.var (codes "Y") ∷ [])) (T.tuple (T.int 1 ∷ T.int 2 ∷ [])) ∷ T.value (T.var (codes "Y")) ∷ [])) ≡ came (V.int 2)

-- begin {X, X} = {3, 3}, X end
abbrev pub bodies_9 : Type 0
bodies_9 = outcome_of records functions (T.begin_of (T.match (P.tuple (P.var (codes "X") ∷ P.var (codes "X") ∷ [])) (T.tuple (T.int 3 ∷ T.int 3 ∷ [])) ∷ T.value (T.var (codes "X")) ∷ [])) ≡ came (V.int 3)

-- begin _ = 1, _ = 2, 3 end
abbrev pub bodies_10 : Type 0
bodies_10 = outcome_of records functions (T.begin_of (T.match (P.var (codes "_")) (T.int 1) ∷ T.match (P.var (codes "_")) (T.int 2) ∷ T.value (T.int 3) ∷ [])) ≡ came (V.int 3)

-- begin _A = 1, _A end
abbrev pub bodies_11 : Type 0
bodies_11 = outcome_of records functions (T.begin_of (T.match (P.var (codes "_A")) (T.int 1) ∷ T.value (T.var (codes "_A")) ∷ [])) ≡ came (V.int 1)

-- begin {_, _} = {1, 2} end
abbrev pub bodies_12 : Type 0
bodies_12 = outcome_of records functions (T.begin_of (T.match (P.tuple (P.var (codes "_") ∷ P.var (codes "_") ∷ [])) (T.tuple (T.int 1 ∷ T.int 2 ∷ [])) ∷ [])) ≡ came (V.tuple (V.int 1 ∷ V.int 2 ∷ []))

-- begin #{a := A} = #{a => 1, b => 2}, A end
abbrev pub bodies_13 : Type 0
bodies_13 = outcome_of records functions (T.begin_of (T.match (P.map (P.at_atom (codes "a") (P.var (codes "A")) ∷ [])) (T.map_new (T.sets (T.atom (codes "a")) (T.int 1) ∷ T.sets (T.atom (codes "b")) (T.int 2) ∷ [])) ∷ T.value (T.var (codes "A")) ∷ [])) ≡ came (V.int 1)

-- begin {A, _} = P = {1, 2}, {A, P} end
abbrev pub bodies_14 : Type 0
bodies_14 = outcome_of records functions (T.begin_of (T.match (P.alias (P.tuple (P.var (codes "A") ∷ P.var (codes "_") ∷ [])) (P.var (codes "P"))) (T.tuple (T.int 1 ∷ T.int 2 ∷ [])) ∷ T.value (T.tuple (T.var (codes "A") ∷ T.var (codes "P") ∷ [])) ∷ [])) ≡ came (V.tuple (V.int 1 ∷ V.tuple (V.int 1 ∷ V.int 2 ∷ []) ∷ []))

-- begin X = begin Y = 2, Y * Y end, X + 1 end
abbrev pub bodies_15 : Type 0
bodies_15 = outcome_of records functions (T.begin_of (T.match (P.var (codes "X")) (T.begin_of (T.match (P.var (codes "Y")) (T.int 2) ∷ T.value (T.binary B.Mul (T.var (codes "Y")) (T.var (codes "Y"))) ∷ [])) ∷ T.value (T.binary B.Add (T.var (codes "X")) (T.int 1)) ∷ [])) ≡ came (V.int 5)

-- begin throw(1), throw(2) end
abbrev pub bodies_16 : Type 0
bodies_16 = outcome_of records functions (T.begin_of (T.value (T.call (codes "throw") (T.int 1 ∷ [])) ∷ T.value (T.call (codes "throw") (T.int 2 ∷ [])) ∷ [])) ≡ raised throw (V.int 1)

-- begin X = throw(1), X end
abbrev pub bodies_17 : Type 0
bodies_17 = outcome_of records functions (T.begin_of (T.match (P.var (codes "X")) (T.call (codes "throw") (T.int 1 ∷ [])) ∷ T.value (T.var (codes "X")) ∷ [])) ≡ raised throw (V.int 1)

-- all of them
abbrev pub Bodies : Type 0
Bodies = bodies_1 × bodies_2 × bodies_3 × bodies_4 × bodies_5 × bodies_6 × bodies_7 × bodies_8 × bodies_9 × bodies_10 × bodies_11 × bodies_12 × bodies_13 × bodies_14 × bodies_15 × bodies_16 × bodies_17
