-- Examples of runs: filters that are guards in Erlang and aren't in these definitions. Written by expressions.escript.
use Rattle.std.specs.Prelude.{◌≡◌, List, [], ◌∷◌, codes}
use Rattle.erl_tree.specs.declared.form.Function.{Function}
use Rattle.erl_tree.specs.declared.form.RecDefKind.{RecDefKind}
use Rattle.erl_tree.specs.declared.expr.BinaryOp.TheVariants as B
use Rattle.erl_runs.specs.Value.{raised, wrong, error}
use Rattle.examples_runs.specs.Trees as T
use Rattle.examples_runs.specs.Patterns as P
use Rattle.examples_runs.specs.Outcomes as V
use Rattle.examples_runs.specs.Outcomes.{outcome_of}

-- -record(point, {x, y = 0}).

abbrev pub records : List RecDefKind
records = T.record_of (codes "point") (T.declared (codes "x") ∷ T.declared_with (codes "y") (T.int 0) ∷ []) ∷ []

abbrev pub functions : List Function
functions = []

-- [X || X <- [0, 1], #{x => 1 div X} == #{x => 1}] (Erlang gives [1])
abbrev pub other_filters_1 : Type 0
other_filters_1 = outcome_of records functions (T.comprehension (T.var (codes "X")) (T.generator (P.var (codes "X")) (T.list (T.int 0 ∷ T.int 1 ∷ [])) ∷ T.filter (T.binary B.Eq (T.map_new (T.sets (T.atom (codes "x")) (T.binary B.Div (T.int 1) (T.var (codes "X"))) ∷ [])) (T.map_new (T.sets (T.atom (codes "x")) (T.int 1) ∷ []))) ∷ [])) ≡ raised error (V.atom (codes "badarith"))

-- [X || X <- [0, 1], #point{x = 1 div X} == {point, 1, 0}] (Erlang gives [1])
abbrev pub other_filters_2 : Type 0
other_filters_2 = outcome_of records functions (T.comprehension (T.var (codes "X")) (T.generator (P.var (codes "X")) (T.list (T.int 0 ∷ T.int 1 ∷ [])) ∷ T.filter (T.binary B.Eq (T.rec_new (codes "point") (T.field (codes "x") (T.binary B.Div (T.int 1) (T.var (codes "X"))) ∷ [])) (T.tuple (T.atom (codes "point") ∷ T.int 1 ∷ T.int 0 ∷ []))) ∷ [])) ≡ raised error (V.atom (codes "badarith"))

-- [length(M) || M <- [[], [a]], #{}#{a := hd(M)} == 1] (Erlang gives [])
abbrev pub other_filters_3 : Type 0
other_filters_3 = outcome_of records functions (T.comprehension (T.call (codes "length") (T.var (codes "M") ∷ [])) (T.generator (P.var (codes "M")) (T.list (T.list [] ∷ T.list (T.atom (codes "a") ∷ []) ∷ [])) ∷ T.filter (T.binary B.Eq (T.map_change (T.map_new []) (T.replaces (T.atom (codes "a")) (T.call (codes "hd") (T.var (codes "M") ∷ [])) ∷ [])) (T.int 1)) ∷ [])) ≡ wrong

-- [map_size(M) || M <- [#{}, #{a => 1}], M#{a := 2} == #{a => 2}] (Erlang gives [1])
abbrev pub other_filters_4 : Type 0
other_filters_4 = outcome_of records functions (T.comprehension (T.call (codes "map_size") (T.var (codes "M") ∷ [])) (T.generator (P.var (codes "M")) (T.list (T.map_new [] ∷ T.map_new (T.sets (T.atom (codes "a")) (T.int 1) ∷ []) ∷ [])) ∷ T.filter (T.binary B.Eq (T.map_change (T.var (codes "M")) (T.replaces (T.atom (codes "a")) (T.int 2) ∷ [])) (T.map_new (T.sets (T.atom (codes "a")) (T.int 2) ∷ []))) ∷ [])) ≡ raised error (V.tuple (V.atom (codes "badkey") ∷ V.atom (codes "a") ∷ []))

-- all of them
abbrev pub OtherFilters : Type 0
OtherFilters = other_filters_1 × other_filters_2 × other_filters_3 × other_filters_4
