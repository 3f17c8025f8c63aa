-- Whole runs: what a call of `main() -> E.` comes to, how many of its hundred steps are left, and which calls of functions it lists behind its own, each with its arguments and the steps that were left.
use Rattle.std.specs.Prelude.{◌≡◌, ℕ, List, [], ◌∷◌, codes}
use Rattle.type_terms.specs.Keys.{Name}
use Rattle.erl_tree.specs.declared.form.Function.{Function}
use Rattle.erl_tree.specs.declared.expr.BinaryOp.TheVariants as B
use Rattle.erl_runs.specs.Value.{came, raised, wrong, going, throw}
use Rattle.examples_runs.specs.Trees as T
use Rattle.examples_runs.specs.Trees.{Expr}
use Rattle.examples_runs.specs.Patterns as P
use Rattle.examples_runs.specs.Outcomes as V
use Rattle.examples_runs.specs.Outcomes.{outcome_of, run_of, called, ended}

-- even(0) -> true; even(N) -> odd(N - 1).
-- odd(0) -> false; odd(N) -> even(N - 1).
-- same(X) -> X.
-- loop() -> loop().

-- the clauses `NAME(0) -> A; NAME(N) -> OTHER(N - 1).`
abbrev pub by_turns : Name → Name → Name → Function
by_turns name a other = T.function name (
    T.clause (P.int 0 ∷ []) (T.value (T.atom a) ∷ [])
    ∷ T.clause (P.var (codes "N") ∷ []) (T.value (T.call other (T.binary B.Sub (T.var (codes "N")) (T.int 1) ∷ [])) ∷ [])
    ∷ [])

abbrev pub functions : List Function
functions =
    by_turns (codes "even") (codes "true") (codes "odd")
    ∷ by_turns (codes "odd") (codes "false") (codes "even")
    ∷ T.function (codes "same") (T.clause (P.var (codes "X") ∷ []) (T.value (T.var (codes "X")) ∷ []) ∷ [])
    ∷ T.function (codes "loop") (T.clause [] (T.value (T.call (codes "loop") []) ∷ []) ∷ [])
    ∷ []

-- `even(N)`
abbrev pub even : ℕ → Expr
even n = T.call (codes "even") (T.int n ∷ [])

-- `same(E)`
abbrev pub same : Expr → Expr
same e = T.call (codes "same") (e ∷ [])

-- even(2)
abbrev pub calls_in_turn : Type 0
calls_in_turn = run_of [] functions (even 2) ≡ ended (came (V.atom (codes "true"))) 96
    (called (codes "even") (V.int 2 ∷ []) 98 ∷ called (codes "odd") (V.int 1 ∷ []) 97 ∷ called (codes "even") (V.int 0 ∷ []) 96 ∷ [])

-- same({same(1)})
abbrev pub calls_in_arguments : Type 0
calls_in_arguments = run_of [] functions (same (T.tuple (same (T.int 1) ∷ []))) ≡ ended (came (V.tuple (V.int 1 ∷ []))) 97
    (called (codes "same") (V.int 1 ∷ []) 98 ∷ called (codes "same") (V.tuple (V.int 1 ∷ []) ∷ []) 97 ∷ [])

-- hd([1])
abbrev pub built_in_calls : Type 0
built_in_calls = run_of [] functions (T.call (codes "hd") (T.list (T.int 1 ∷ []) ∷ [])) ≡ ended (came (V.int 1)) 99 []

-- (fun(X) -> X end)(1)
abbrev pub closure_calls : Type 0
closure_calls = run_of [] functions (T.apply (T.fun_of (T.clause (P.var (codes "X") ∷ []) (T.value (T.var (codes "X")) ∷ []) ∷ [])) (T.int 1 ∷ [])) ≡ ended (came (V.int 1)) 98 []

-- (fun same/1)(1)
abbrev pub named_fun_calls : Type 0
named_fun_calls = run_of [] functions (T.apply (T.fun_name (codes "same") 1) (T.int 1 ∷ [])) ≡ ended (came (V.int 1)) 98 (called (codes "same") (V.int 1 ∷ []) 98 ∷ [])

-- {same(1), throw(2), same(3)}
abbrev pub calls_before_an_exception : Type 0
calls_before_an_exception = run_of [] functions (T.tuple (same (T.int 1) ∷ T.call (codes "throw") (T.int 2 ∷ []) ∷ same (T.int 3) ∷ [])) ≡ ended (raised throw (V.int 2)) 98 (called (codes "same") (V.int 1 ∷ []) 98 ∷ [])

-- {same(1), 1 + a, same(3)}
abbrev pub calls_before_wrong : Type 0
calls_before_wrong = run_of [] functions (T.tuple (same (T.int 1) ∷ T.binary B.Add (T.int 1) (T.atom (codes "a")) ∷ same (T.int 3) ∷ [])) ≡ ended wrong 98 (called (codes "same") (V.int 1 ∷ []) 98 ∷ [])

-- absent(1)
abbrev pub calls_of_absent_functions : Type 0
calls_of_absent_functions = run_of [] functions (T.call (codes "absent") (T.int 1 ∷ [])) ≡ ended wrong 98 (called (codes "absent") (V.int 1 ∷ []) 98 ∷ [])

-- try throw(same(1)) catch X -> same({X}) after same(3) end
abbrev pub calls_in_a_try : Type 0
calls_in_a_try = run_of [] functions (T.try_after (T.value (T.call (codes "throw") (same (T.int 1) ∷ [])) ∷ []) [] (T.caught (T.clause (P.var (codes "X") ∷ []) (T.value (same (T.tuple (T.var (codes "X") ∷ []))) ∷ [])) ∷ []) (T.value (same (T.int 3)) ∷ []))
    ≡ ended (came (V.tuple (V.int 1 ∷ []))) 96 (called (codes "same") (V.int 1 ∷ []) 98 ∷ called (codes "same") (V.tuple (V.int 1 ∷ []) ∷ []) 97 ∷ called (codes "same") (V.int 3 ∷ []) 96 ∷ [])

-- [same(X) || X <- [1, 2]]
abbrev pub calls_in_a_comprehension : Type 0
calls_in_a_comprehension = run_of [] functions (T.comprehension (same (T.var (codes "X"))) (T.generator (P.var (codes "X")) (T.list (T.int 1 ∷ T.int 2 ∷ [])) ∷ []))
    ≡ ended (came (V.list (V.int 1 ∷ V.int 2 ∷ []))) 97 (called (codes "same") (V.int 1 ∷ []) 98 ∷ called (codes "same") (V.int 2 ∷ []) 97 ∷ [])

-- even(98), which makes a hundred applications with that of main()
abbrev pub steps_that_suffice : Type 0
steps_that_suffice = outcome_of [] functions (even 98) ≡ came (V.atom (codes "true"))

-- even(99)
abbrev pub a_step_too_few : Type 0
a_step_too_few = outcome_of [] functions (even 99) ≡ going

-- loop()
abbrev pub steps_that_are_used_up : Type 0
steps_that_are_used_up = outcome_of [] functions (T.call (codes "loop") []) ≡ going
