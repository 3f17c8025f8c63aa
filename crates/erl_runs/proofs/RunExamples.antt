-- Small examples of runs.
use Rattle.std.proofs.Common.{◌≡◌, refl, ◌∙◌, ap, ℕ, zero, suc, pos, [], ◌∷◌, length, arith}
use Rattle.std.specs.Prelude.{None, codes}
use Rattle.erl_tree.specs.declared.expr.BinaryOp.TheVariants.{Add}
use Rattle.erl_tree.specs.declared.expr.ItemKind.TheVariants as I
use Rattle.erl_tree.specs.declared.expr.ClauseKind.{roll-ClauseKind, out-roll-ClauseKind}
use Rattle.erl_runs.specs.Value.{integer, named_fun, Environment, no_bindings, wrong, going}
use Rattle.erl_runs.specs.Matching.{with_variable, Match, match_next, match_patterns}
use Rattle.erl_runs.specs.Operations.{operate, built_in}
use Rattle.erl_runs.specs.Running.{ends, gives, goes_wrong, then, Applies, Code, arity_of, behind, run_operator, run_call, run_expression, taken_anew, run_clauses, choices, apply}
use Rattle.erl_grammar.specs.declared.head.Head.TheVariants.{Plain, OfCall}
use Rattle.erl_grammar.specs.Grammar.{node, IsPattern, one_pattern, variable_pattern, IsExpr, postfix, variable, call, IsItem, value, no_guard}
use Rattle.erl_grammar.specs.FormGrammar.{IsFunctionClause, function_clause, IsFunction, function}
use Rattle.erl_grammar.specs.SmallTrees.{var_at}
use Rattle.erl_grammar.proofs.Layers.{each}
use Rattle.erl_runs.specs.SmallPrograms.{one, endless_code}
use Rattle.erl_tree.specs.SmallText.{place}
use Rattle.erl_runs.specs.SmallTrees.{int_at, atom_at, one_and_two, one_and_atom, self_call, self_call_layer, calls_itself}
use Rattle.erl_runs.proofs.MatchLaws.{match_kind-Var}
use Rattle.erl_runs.proofs.RunLaws.{expr_part, runs-Int, runs-Atom, runs-Var, runs-Binary, runs-Call, run_bound, one_clause-runs}
use Rattle.erl_runs.proofs.BoundFree.{apply-none, apply-step}

pub sum-integers : (code : Code) (applies : Applies) (number : ℕ) (environment : Environment) (steps : ℕ) → run_expression code applies one_and_two number environment steps ≡ gives (integer (pos 3)) steps
unfolding then
sum-integers code applies number environment steps =
    runs-Binary code.unbound code.records (arity_of code) applies Add (int_at (pos 1) 1) (int_at (pos 2) 3) number environment steps
    ∙ (ap (λ r. then r (λ v left. run_operator Add v (λ rest. run_expression code applies (int_at (pos 2) 3) (behind number (expr_part code.unbound code.records (arity_of code) applies (int_at (pos 1) 1)).funs) environment rest) left)) (runs-Int code.unbound code.records (arity_of code) applies (pos 1) number environment steps)
    ∙ ap (λ r. then r (λ w rest. ends (operate Add one w) rest)) (runs-Int code.unbound code.records (arity_of code) applies (pos 2) _ environment steps))

pub sum-atom : (code : Code) (applies : Applies) (number : ℕ) (environment : Environment) (steps : ℕ) → run_expression code applies one_and_atom number environment steps ≡ goes_wrong steps
unfolding then
sum-atom code applies number environment steps =
    runs-Binary code.unbound code.records (arity_of code) applies Add (int_at (pos 1) 1) (atom_at (codes "a") 3) number environment steps
    ∙ (ap (λ r. then r (λ v left. run_operator Add v (λ rest. run_expression code applies (atom_at (codes "a") 3) (behind number (expr_part code.unbound code.records (arity_of code) applies (int_at (pos 1) 1)).funs) environment rest) left)) (runs-Int code.unbound code.records (arity_of code) applies (pos 1) number environment steps)
    ∙ ap (λ r. then r (λ w rest. ends (operate Add one w) rest)) (runs-Atom code.unbound code.records (arity_of code) applies (codes "a") _ environment steps))

-- the environment with 1 for X
abbrev bound_one : Environment
bound_one = with_variable (codes "X") one no_bindings

-- the run of f(1) goes on with the run of f(1)
self_call-runs : (applies : Applies) (number : ℕ) (steps : ℕ) → run_expression endless_code applies self_call number bound_one steps ≡ applies (named_fun (codes "f") 1) (one ∷ []) steps
unfolding then
self_call-runs applies number steps =
    runs-Call wrong [] (arity_of endless_code) applies None (codes "f") _ number bound_one steps
    ∙ ap (λ r. then (then r (λ v left. then (gives [] left) (λ vs rest. gives (v ∷ vs) rest))) (λ vs left. run_call wrong None (built_in (arity_of endless_code) (codes "f") vs) (λ rest. applies (named_fun (codes "f") (length vs)) vs rest) left)) (runs-Var wrong [] (arity_of endless_code) applies (codes "X") number bound_one steps)

self_call-clause : (applies : Applies) (steps : ℕ) → run_clauses taken_anew (choices wrong [] (arity_of endless_code) applies calls_itself.clauses) 0 no_bindings (one ∷ []) steps ≡ applies (named_fun (codes "f") 1) (one ∷ []) steps
self_call-clause applies steps =
    one_clause-runs wrong [] (arity_of endless_code) applies (roll-ClauseKind self_call_layer) self_call_layer.patterns (node (place 7) [] (I.Value self_call)) self_call (out-roll-ClauseKind self_call_layer) refl 0 (one ∷ []) steps
    ∙ (ap (λ (m : Match). run_bound wrong [] (arity_of endless_code) applies (match_next (m one no_bindings) (match_patterns [] [] [])) (λ environment. run_expression endless_code applies self_call 0 environment steps) steps) (match_kind-Var [] (codes "X"))
    ∙ self_call-runs applies 0 steps)

call-formed : IsExpr 0 self_call
call-formed = postfix 0 OfCall _ (call (place 7) (place 8) (place 10) [] (codes "f") _ refl tt (each (IsExpr 0) (var_at (codes "X") 9 ∷ []) (postfix 0 Plain _ (variable (place 9) (codes "X")), tt)))

clause-formed : IsFunctionClause (node (place 1) (place 1 ∷ place 2 ∷ place 4 ∷ place 5 ∷ []) (roll-ClauseKind self_call_layer))
clause-formed = function_clause (place 1) (place 2) (place 4) (place 5) self_call_layer.patterns None [] [] [] _ [] (omega arith) tt
    (each IsPattern self_call_layer.patterns (one_pattern _ (variable_pattern (place 3) (codes "X")), tt)) no_guard tt (each IsItem self_call_layer.body (value self_call call-formed, tt))

pub formed : IsFunction calls_itself
formed = function (codes "f") (place 11) [] _ [] tt (each IsFunctionClause calls_itself.clauses (clause-formed, tt))

pub endless : (steps : ℕ) → (apply endless_code (named_fun (codes "f") 1) (one ∷ []) steps).outcome ≡ going
endless zero = ap (λ r. r.outcome) (apply-none endless_code (named_fun (codes "f") 1) (one ∷ []))
endless (suc steps) = ap (λ r. r.outcome) (apply-step endless_code (named_fun (codes "f") 1) (one ∷ []) steps) ∙ (ap (λ r. r.outcome) (self_call-clause (apply endless_code) steps) ∙ endless steps)
