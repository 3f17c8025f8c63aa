-- Examples of runs: maps. Written by expressions.escript.
use Rattle.std.specs.Prelude.{◌≡◌, List, [], ◌∷◌, codes}
use Rattle.erl_tree.specs.declared.form.Function.{Function}
use Rattle.erl_tree.specs.declared.form.RecDefKind.{RecDefKind}
use Rattle.erl_tree.specs.declared.expr.UnaryOp.TheVariants as U
use Rattle.erl_tree.specs.declared.expr.BinaryOp.TheVariants as B
use Rattle.erl_runs.specs.Value.{came, raised, error}
use Rattle.examples_runs.specs.Trees as T
use Rattle.examples_runs.specs.Patterns as P
use Rattle.examples_runs.specs.Outcomes as V
use Rattle.examples_runs.specs.Outcomes.{outcome_of}

abbrev pub records : List RecDefKind
records = []

abbrev pub functions : List Function
functions = []

-- #{}
abbrev pub maps_made_1 : Type 0
maps_made_1 = outcome_of records functions (T.map_new []) ≡ came (V.map_with [])

-- #{a => 1}
abbrev pub maps_made_2 : Type 0
maps_made_2 = outcome_of records functions (T.map_new (T.sets (T.atom (codes "a")) (T.int 1) ∷ [])) ≡ came (V.map_with (V.at_atom (codes "a") (V.int 1) ∷ []))

-- #{a => 1, b => 2, 1 => c, -1 => d}
abbrev pub maps_made_3 : Type 0
maps_made_3 = outcome_of records functions (T.map_new (T.sets (T.atom (codes "a")) (T.int 1) ∷ T.sets (T.atom (codes "b")) (T.int 2) ∷ T.sets (T.int 1) (T.atom (codes "c")) ∷ T.sets (T.unary U.Minus (T.int 1)) (T.atom (codes "d")) ∷ [])) ≡ came (V.map_with (V.at_minus 1 (V.atom (codes "d")) ∷ V.at_int 1 (V.atom (codes "c")) ∷ V.at_atom (codes "a") (V.int 1) ∷ V.at_atom (codes "b") (V.int 2) ∷ []))

-- #{a => 1, a => 2}
abbrev pub maps_made_4 : Type 0
maps_made_4 = outcome_of records functions (T.map_new (T.sets (T.atom (codes "a")) (T.int 1) ∷ T.sets (T.atom (codes "a")) (T.int 2) ∷ [])) ≡ came (V.map_with (V.at_atom (codes "a") (V.int 2) ∷ []))

-- #{1 + 1 => a, 2 => b}
abbrev pub maps_made_5 : Type 0
maps_made_5 = outcome_of records functions (T.map_new (T.sets (T.binary B.Add (T.int 1) (T.int 1)) (T.atom (codes "a")) ∷ T.sets (T.int 2) (T.atom (codes "b")) ∷ [])) ≡ came (V.map_with (V.at_int 2 (V.atom (codes "b")) ∷ []))

-- #{a => #{b => 1}}
abbrev pub maps_made_6 : Type 0
maps_made_6 = outcome_of records functions (T.map_new (T.sets (T.atom (codes "a")) (T.map_new (T.sets (T.atom (codes "b")) (T.int 1) ∷ [])) ∷ [])) ≡ came (V.map_with (V.at_atom (codes "a") (V.map_with (V.at_atom (codes "b") (V.int 1) ∷ [])) ∷ []))

-- #{a => 1}#{b => 2}
abbrev pub maps_made_7 : Type 0
maps_made_7 = outcome_of records functions (T.map_change (T.map_new (T.sets (T.atom (codes "a")) (T.int 1) ∷ [])) (T.sets (T.atom (codes "b")) (T.int 2) ∷ [])) ≡ came (V.map_with (V.at_atom (codes "a") (V.int 1) ∷ V.at_atom (codes "b") (V.int 2) ∷ []))

-- #{a => 1}#{a => 2}
abbrev pub maps_made_8 : Type 0
maps_made_8 = outcome_of records functions (T.map_change (T.map_new (T.sets (T.atom (codes "a")) (T.int 1) ∷ [])) (T.sets (T.atom (codes "a")) (T.int 2) ∷ [])) ≡ came (V.map_with (V.at_atom (codes "a") (V.int 2) ∷ []))

-- #{a => 1}#{a := 2}
abbrev pub maps_made_9 : Type 0
maps_made_9 = outcome_of records functions (T.map_change (T.map_new (T.sets (T.atom (codes "a")) (T.int 1) ∷ [])) (T.replaces (T.atom (codes "a")) (T.int 2) ∷ [])) ≡ came (V.map_with (V.at_atom (codes "a") (V.int 2) ∷ []))

-- #{a => 1, b => 2}#{b := 3, a => 4}
abbrev pub maps_made_10 : Type 0
maps_made_10 = outcome_of records functions (T.map_change (T.map_new (T.sets (T.atom (codes "a")) (T.int 1) ∷ T.sets (T.atom (codes "b")) (T.int 2) ∷ [])) (T.replaces (T.atom (codes "b")) (T.int 3) ∷ T.sets (T.atom (codes "a")) (T.int 4) ∷ [])) ≡ came (V.map_with (V.at_atom (codes "a") (V.int 4) ∷ V.at_atom (codes "b") (V.int 3) ∷ []))

-- #{a => 1}#{a := 2, a := 3}
abbrev pub maps_made_11 : Type 0
maps_made_11 = outcome_of records functions (T.map_change (T.map_new (T.sets (T.atom (codes "a")) (T.int 1) ∷ [])) (T.replaces (T.atom (codes "a")) (T.int 2) ∷ T.replaces (T.atom (codes "a")) (T.int 3) ∷ [])) ≡ came (V.map_with (V.at_atom (codes "a") (V.int 3) ∷ []))

-- #{}#{a => 1, a := 2}
abbrev pub maps_made_12 : Type 0
maps_made_12 = outcome_of records functions (T.map_change (T.map_new []) (T.sets (T.atom (codes "a")) (T.int 1) ∷ T.replaces (T.atom (codes "a")) (T.int 2) ∷ [])) ≡ came (V.map_with (V.at_atom (codes "a") (V.int 2) ∷ []))

-- #{a => 1}#{a := 2, a => 3}
abbrev pub maps_made_13 : Type 0
maps_made_13 = outcome_of records functions (T.map_change (T.map_new (T.sets (T.atom (codes "a")) (T.int 1) ∷ [])) (T.replaces (T.atom (codes "a")) (T.int 2) ∷ T.sets (T.atom (codes "a")) (T.int 3) ∷ [])) ≡ came (V.map_with (V.at_atom (codes "a") (V.int 3) ∷ []))

-- #{a => 1}#{b := 2}
abbrev pub maps_made_14 : Type 0
maps_made_14 = outcome_of records functions (T.map_change (T.map_new (T.sets (T.atom (codes "a")) (T.int 1) ∷ [])) (T.replaces (T.atom (codes "b")) (T.int 2) ∷ [])) ≡ raised error (V.tuple (V.atom (codes "badkey") ∷ V.atom (codes "b") ∷ []))

-- #{}#{1 := 2}
abbrev pub maps_made_15 : Type 0
maps_made_15 = outcome_of records functions (T.map_change (T.map_new []) (T.replaces (T.int 1) (T.int 2) ∷ [])) ≡ raised error (V.tuple (V.atom (codes "badkey") ∷ V.int 1 ∷ []))

-- #{}#{-7 := a}
abbrev pub maps_made_16 : Type 0
maps_made_16 = outcome_of records functions (T.map_change (T.map_new []) (T.replaces (T.unary U.Minus (T.int 7)) (T.atom (codes "a")) ∷ [])) ≡ raised error (V.tuple (V.atom (codes "badkey") ∷ V.minus 7 ∷ []))

-- #{a => 1}#{a := 2, b := 3}
abbrev pub maps_made_17 : Type 0
maps_made_17 = outcome_of records functions (T.map_change (T.map_new (T.sets (T.atom (codes "a")) (T.int 1) ∷ [])) (T.replaces (T.atom (codes "a")) (T.int 2) ∷ T.replaces (T.atom (codes "b")) (T.int 3) ∷ [])) ≡ raised error (V.tuple (V.atom (codes "badkey") ∷ V.atom (codes "b") ∷ []))

-- #{}#{b => 1, a := 2}
abbrev pub maps_made_18 : Type 0
maps_made_18 = outcome_of records functions (T.map_change (T.map_new []) (T.sets (T.atom (codes "b")) (T.int 1) ∷ T.replaces (T.atom (codes "a")) (T.int 2) ∷ [])) ≡ raised error (V.tuple (V.atom (codes "badkey") ∷ V.atom (codes "a") ∷ []))

-- #{}#{a := 1}#{a => 2}
abbrev pub maps_made_19 : Type 0
maps_made_19 = outcome_of records functions (T.map_change (T.map_change (T.map_new []) (T.replaces (T.atom (codes "a")) (T.int 1) ∷ [])) (T.sets (T.atom (codes "a")) (T.int 2) ∷ [])) ≡ raised error (V.tuple (V.atom (codes "badkey") ∷ V.atom (codes "a") ∷ []))

-- #{}#{a => 1}#{a := 2}
abbrev pub maps_made_20 : Type 0
maps_made_20 = outcome_of records functions (T.map_change (T.map_change (T.map_new []) (T.sets (T.atom (codes "a")) (T.int 1) ∷ [])) (T.replaces (T.atom (codes "a")) (T.int 2) ∷ [])) ≡ came (V.map_with (V.at_atom (codes "a") (V.int 2) ∷ []))

-- begin M = #{a => 1}, N = M#{a := 2}, {M, N} end
abbrev pub maps_made_21 : Type 0
maps_made_21 = outcome_of records functions (T.begin_of (T.match (P.var (codes "M")) (T.map_new (T.sets (T.atom (codes "a")) (T.int 1) ∷ [])) ∷ T.match (P.var (codes "N")) (T.map_change (T.var (codes "M")) (T.replaces (T.atom (codes "a")) (T.int 2) ∷ [])) ∷ T.value (T.tuple (T.var (codes "M") ∷ T.var (codes "N") ∷ [])) ∷ [])) ≡ came (V.tuple (V.map_with (V.at_atom (codes "a") (V.int 1) ∷ []) ∷ V.map_with (V.at_atom (codes "a") (V.int 2) ∷ []) ∷ []))

-- begin K = k, M = #{K => 1}, M#{K := 2} end
abbrev pub maps_made_22 : Type 0
maps_made_22 = outcome_of records functions (T.begin_of (T.match (P.var (codes "K")) (T.atom (codes "k")) ∷ T.match (P.var (codes "M")) (T.map_new (T.sets (T.var (codes "K")) (T.int 1) ∷ [])) ∷ T.value (T.map_change (T.var (codes "M")) (T.replaces (T.var (codes "K")) (T.int 2) ∷ [])) ∷ [])) ≡ came (V.map_with (V.at_atom (codes "k") (V.int 2) ∷ []))

-- #{$a => 1}
abbrev pub maps_made_23 : Type 0
maps_made_23 = outcome_of records functions (T.map_new (T.sets (T.char 97) (T.int 1) ∷ [])) ≡ came (V.map_with (V.at_int 97 (V.int 1) ∷ []))

-- try #{}#{k := 1} catch error:{badkey, K} -> K end
abbrev pub maps_made_24 : Type 0
maps_made_24 = outcome_of records functions (T.try_of (T.value (T.map_change (T.map_new []) (T.replaces (T.atom (codes "k")) (T.int 1) ∷ [])) ∷ []) [] (T.caught_as (P.atom (codes "error")) (T.clause (P.tuple (P.atom (codes "badkey") ∷ P.var (codes "K") ∷ []) ∷ []) (T.value (T.var (codes "K")) ∷ [])) ∷ [])) ≡ came (V.atom (codes "k"))

-- #{x => #{}#{y := 1}}
abbrev pub maps_made_25 : Type 0
maps_made_25 = outcome_of records functions (T.map_new (T.sets (T.atom (codes "x")) (T.map_change (T.map_new []) (T.replaces (T.atom (codes "y")) (T.int 1) ∷ [])) ∷ [])) ≡ raised error (V.tuple (V.atom (codes "badkey") ∷ V.atom (codes "y") ∷ []))

-- all of them
abbrev pub MapsMade : Type 0
MapsMade = maps_made_1 × maps_made_2 × maps_made_3 × maps_made_4 × maps_made_5 × maps_made_6 × maps_made_7 × maps_made_8 × maps_made_9 × maps_made_10 × maps_made_11 × maps_made_12 × maps_made_13 × maps_made_14 × maps_made_15 × maps_made_16 × maps_made_17 × maps_made_18 × maps_made_19 × maps_made_20 × maps_made_21 × maps_made_22 × maps_made_23 × maps_made_24 × maps_made_25
