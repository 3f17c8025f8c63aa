-- Examples of runs: where the compiler of Erlang takes another order than the text's, or leaves out what has no use. Written by expressions.escript.
use Rattle.std.specs.Prelude.{◌≡◌, List, [], ◌∷◌, codes}
use Rattle.erl_tree.specs.declared.form.Function.{Function}
use Rattle.erl_tree.specs.declared.form.RecDefKind.{RecDefKind}
use Rattle.erl_runs.specs.Value.{raised, error, throw}
use Rattle.examples_runs.specs.Trees as T
use Rattle.examples_runs.specs.Patterns as P
use Rattle.examples_runs.specs.Outcomes as V
use Rattle.examples_runs.specs.Outcomes.{outcome_of}

-- -record(point, {x, y = 0}).

abbrev pub records : List RecDefKind
records = T.record_of (codes "point") (T.declared (codes "x") ∷ T.declared_with (codes "y") (T.int 0) ∷ []) ∷ []

abbrev pub functions : List Function
functions = []

-- #{}#{b := 1, a := 2} (Erlang raises error:{badkey,a})
abbrev pub other_orders_1 : Type 0
other_orders_1 = outcome_of records functions (T.map_change (T.map_new []) (T.replaces (T.atom (codes "b")) (T.int 1) ∷ T.replaces (T.atom (codes "a")) (T.int 2) ∷ [])) ≡ raised error (V.tuple (V.atom (codes "badkey") ∷ V.atom (codes "b") ∷ []))

-- #{a => 1}#{c := 1, b := 2} (Erlang raises error:{badkey,b})
abbrev pub other_orders_2 : Type 0
other_orders_2 = outcome_of records functions (T.map_change (T.map_new (T.sets (T.atom (codes "a")) (T.int 1) ∷ [])) (T.replaces (T.atom (codes "c")) (T.int 1) ∷ T.replaces (T.atom (codes "b")) (T.int 2) ∷ [])) ≡ raised error (V.tuple (V.atom (codes "badkey") ∷ V.atom (codes "c") ∷ []))

-- begin K = b, L = a, #{}#{K := 1, L := 2} end (Erlang raises error:{badkey,a})
abbrev pub other_orders_3 : Type 0
other_orders_3 = outcome_of records functions (T.begin_of (T.match (P.var (codes "K")) (T.atom (codes "b")) ∷ T.match (P.var (codes "L")) (T.atom (codes "a")) ∷ T.value (T.map_change (T.map_new []) (T.replaces (T.var (codes "K")) (T.int 1) ∷ T.replaces (T.var (codes "L")) (T.int 2) ∷ [])) ∷ [])) ≡ raised error (V.tuple (V.atom (codes "badkey") ∷ V.atom (codes "b") ∷ []))

-- #{x => #{}#{a := 1}, y => throw(2)} (Erlang raises throw:2)
abbrev pub other_orders_4 : Type 0
other_orders_4 = outcome_of records functions (T.map_new (T.sets (T.atom (codes "x")) (T.map_change (T.map_new []) (T.replaces (T.atom (codes "a")) (T.int 1) ∷ [])) ∷ T.sets (T.atom (codes "y")) (T.call (codes "throw") (T.int 2 ∷ [])) ∷ [])) ≡ raised error (V.tuple (V.atom (codes "badkey") ∷ V.atom (codes "a") ∷ []))

-- {#{}#{a := 1}, throw(2)} (Erlang raises throw:2)
abbrev pub other_orders_5 : Type 0
other_orders_5 = outcome_of records functions (T.tuple (T.map_change (T.map_new []) (T.replaces (T.atom (codes "a")) (T.int 1) ∷ []) ∷ T.call (codes "throw") (T.int 2 ∷ []) ∷ [])) ≡ raised error (V.tuple (V.atom (codes "badkey") ∷ V.atom (codes "a") ∷ []))

-- begin #{}#{a := 1}, throw(2) end (Erlang raises throw:2)
abbrev pub other_orders_6 : Type 0
other_orders_6 = outcome_of records functions (T.begin_of (T.value (T.map_change (T.map_new []) (T.replaces (T.atom (codes "a")) (T.int 1) ∷ [])) ∷ T.value (T.call (codes "throw") (T.int 2 ∷ [])) ∷ [])) ≡ raised error (V.tuple (V.atom (codes "badkey") ∷ V.atom (codes "a") ∷ []))

-- begin _ = #{}#{a := 1}, 2 end (Erlang gives 2)
abbrev pub other_orders_7 : Type 0
other_orders_7 = outcome_of records functions (T.begin_of (T.match (P.var (codes "_")) (T.map_change (T.map_new []) (T.replaces (T.atom (codes "a")) (T.int 1) ∷ [])) ∷ T.value (T.int 2) ∷ [])) ≡ raised error (V.tuple (V.atom (codes "badkey") ∷ V.atom (codes "a") ∷ []))

-- #point{y = throw(1), x = throw(2)} (Erlang raises throw:2)
abbrev pub other_orders_8 : Type 0
other_orders_8 = outcome_of records functions (T.rec_new (codes "point") (T.field (codes "y") (T.call (codes "throw") (T.int 1 ∷ [])) ∷ T.field (codes "x") (T.call (codes "throw") (T.int 2 ∷ [])) ∷ [])) ≡ raised throw (V.int 1)

-- (throw(1))#point{x = throw(2)} (Erlang raises throw:2)
abbrev pub other_orders_9 : Type 0
other_orders_9 = outcome_of records functions (T.rec_change (T.paren (T.call (codes "throw") (T.int 1 ∷ []))) (codes "point") (T.field (codes "x") (T.call (codes "throw") (T.int 2 ∷ [])) ∷ [])) ≡ raised throw (V.int 1)

-- all of them
abbrev pub OtherOrders : Type 0
OtherOrders = other_orders_1 × other_orders_2 × other_orders_3 × other_orders_4 × other_orders_5 × other_orders_6 × other_orders_7 × other_orders_8 × other_orders_9
