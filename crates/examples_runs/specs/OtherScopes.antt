-- Examples of runs: where a name is bound again behind an inner scope. Written by expressions.escript.
use Rattle.std.specs.Prelude.{◌≡◌, List, [], ◌∷◌, codes}
use Rattle.erl_tree.specs.declared.form.Function.{Function}
use Rattle.erl_tree.specs.declared.form.RecDefKind.{RecDefKind}
use Rattle.erl_tree.specs.declared.expr.BinaryOp.TheVariants as B
use Rattle.erl_runs.specs.Value.{came, wrong}
use Rattle.examples_runs.specs.Trees as T
use Rattle.examples_runs.specs.Patterns as P
use Rattle.examples_runs.specs.Outcomes as V
use Rattle.examples_runs.specs.Outcomes.{outcome_of}

-- f(X, Y) -> {X, Y}.

abbrev pub records : List RecDefKind
records = []

abbrev pub functions : List Function
functions = T.function (codes "f") (T.clause (P.var (codes "X") ∷ P.var (codes "Y") ∷ []) (T.value (T.tuple (T.var (codes "X") ∷ T.var (codes "Y") ∷ [])) ∷ []) ∷ []) ∷ []

-- {case 1 of X -> X end, case 2 of X -> X; _ -> other end} (Erlang gives {1,other})
abbrev pub other_scopes_1 : Type 0
other_scopes_1 = outcome_of records functions (T.tuple (T.case_of (T.int 1) (T.clause (P.var (codes "X") ∷ []) (T.value (T.var (codes "X")) ∷ []) ∷ []) ∷ T.case_of (T.int 2) (T.clause (P.var (codes "X") ∷ []) (T.value (T.var (codes "X")) ∷ []) ∷ T.clause (P.var (codes "_") ∷ []) (T.value (T.atom (codes "other")) ∷ []) ∷ []) ∷ [])) ≡ came (V.tuple (V.int 1 ∷ V.int 2 ∷ []))

-- begin A = case 1 of X -> X end, B = case 2 of X -> X; _ -> other end, {A, B} end (Erlang gives {1,other})
abbrev pub other_scopes_2 : Type 0
other_scopes_2 = outcome_of records functions (T.begin_of (T.match (P.var (codes "A")) (T.case_of (T.int 1) (T.clause (P.var (codes "X") ∷ []) (T.value (T.var (codes "X")) ∷ []) ∷ [])) ∷ T.match (P.var (codes "B")) (T.case_of (T.int 2) (T.clause (P.var (codes "X") ∷ []) (T.value (T.var (codes "X")) ∷ []) ∷ T.clause (P.var (codes "_") ∷ []) (T.value (T.atom (codes "other")) ∷ []) ∷ [])) ∷ T.value (T.tuple (T.var (codes "A") ∷ T.var (codes "B") ∷ [])) ∷ [])) ≡ came (V.tuple (V.int 1 ∷ V.int 2 ∷ []))

-- begin case 1 of 1 -> X = 2 end, X = 3, X end (Erlang raises error:{badmatch,3})
abbrev pub other_scopes_3 : Type 0
other_scopes_3 = outcome_of records functions (T.begin_of (T.value (T.case_of (T.int 1) (T.clause (P.int 1 ∷ []) (T.match (P.var (codes "X")) (T.int 2) ∷ []) ∷ [])) ∷ T.match (P.var (codes "X")) (T.int 3) ∷ T.value (T.var (codes "X")) ∷ [])) ≡ came (V.int 3)

-- begin if true -> X = 1 end, X = 2 end (Erlang raises error:{badmatch,2})
abbrev pub other_scopes_4 : Type 0
other_scopes_4 = outcome_of records functions (T.begin_of (T.value (T.if_of (T.clause_when [] ((T.atom (codes "true") ∷ []) ∷ []) (T.match (P.var (codes "X")) (T.int 1) ∷ []) ∷ [])) ∷ T.match (P.var (codes "X")) (T.int 2) ∷ [])) ≡ came (V.int 2)

-- begin begin X = 1 end, X = 2 end (Erlang raises error:{badmatch,2})
abbrev pub other_scopes_5 : Type 0
other_scopes_5 = outcome_of records functions (T.begin_of (T.value (T.begin_of (T.match (P.var (codes "X")) (T.int 1) ∷ [])) ∷ T.match (P.var (codes "X")) (T.int 2) ∷ [])) ≡ came (V.int 2)

-- case begin X = 1, X end of Y -> X = 2, Y end (Erlang raises error:{badmatch,2})
abbrev pub other_scopes_6 : Type 0
other_scopes_6 = outcome_of records functions (T.case_of (T.begin_of (T.match (P.var (codes "X")) (T.int 1) ∷ T.value (T.var (codes "X")) ∷ [])) (T.clause (P.var (codes "Y") ∷ []) (T.match (P.var (codes "X")) (T.int 2) ∷ T.value (T.var (codes "Y")) ∷ []) ∷ [])) ≡ came (V.int 1)

-- f(begin X = 1, X end, begin X = 2, X end) (Erlang raises error:{badmatch,2})
abbrev pub other_scopes_7 : Type 0
other_scopes_7 = outcome_of records functions (T.call (codes "f") (T.begin_of (T.match (P.var (codes "X")) (T.int 1) ∷ T.value (T.var (codes "X")) ∷ []) ∷ T.begin_of (T.match (P.var (codes "X")) (T.int 2) ∷ T.value (T.var (codes "X")) ∷ []) ∷ [])) ≡ came (V.tuple (V.int 1 ∷ V.int 2 ∷ []))

-- begin X = 1, X end + begin X = 2, X end (Erlang raises error:{badmatch,2})
abbrev pub other_scopes_8 : Type 0
other_scopes_8 = outcome_of records functions (T.binary B.Add (T.begin_of (T.match (P.var (codes "X")) (T.int 1) ∷ T.value (T.var (codes "X")) ∷ [])) (T.begin_of (T.match (P.var (codes "X")) (T.int 2) ∷ T.value (T.var (codes "X")) ∷ []))) ≡ came (V.int 3)

-- try X = 1, X of _ -> X = 2 catch _ -> 3 end (Erlang raises error:{badmatch,2})
abbrev pub other_scopes_9 : Type 0
other_scopes_9 = outcome_of records functions (T.try_of (T.match (P.var (codes "X")) (T.int 1) ∷ T.value (T.var (codes "X")) ∷ []) (T.clause (P.var (codes "_") ∷ []) (T.match (P.var (codes "X")) (T.int 2) ∷ []) ∷ []) (T.caught (T.clause (P.var (codes "_") ∷ []) (T.value (T.int 3) ∷ [])) ∷ [])) ≡ came (V.int 2)

-- [begin Y = 1, Y end || X <- [2], begin Y = 3, X < Y end] (Erlang raises error:{badmatch,1})
abbrev pub other_scopes_10 : Type 0
other_scopes_10 = outcome_of records functions (T.comprehension (T.begin_of (T.match (P.var (codes "Y")) (T.int 1) ∷ T.value (T.var (codes "Y")) ∷ [])) (T.generator (P.var (codes "X")) (T.list (T.int 2 ∷ [])) ∷ T.filter (T.begin_of (T.match (P.var (codes "Y")) (T.int 3) ∷ T.value (T.binary B.Lt (T.var (codes "X")) (T.var (codes "Y"))) ∷ [])) ∷ [])) ≡ came (V.list (V.int 1 ∷ []))

-- [Y || X <- [2], begin Y = 3, X < Y end] (Erlang gives [3])
abbrev pub other_scopes_11 : Type 0
other_scopes_11 = outcome_of records functions (T.comprehension (T.var (codes "Y")) (T.generator (P.var (codes "X")) (T.list (T.int 2 ∷ [])) ∷ T.filter (T.begin_of (T.match (P.var (codes "Y")) (T.int 3) ∷ T.value (T.binary B.Lt (T.var (codes "X")) (T.var (codes "Y"))) ∷ [])) ∷ [])) ≡ wrong

-- all of them
abbrev pub OtherScopes : Type 0
OtherScopes = other_scopes_1 × other_scopes_2 × other_scopes_3 × other_scopes_4 × other_scopes_5 × other_scopes_6 × other_scopes_7 × other_scopes_8 × other_scopes_9 × other_scopes_10 × other_scopes_11
