-- What a run of a module with right names gives when a value is applied: it is the same whatever an unbound name gives, and what comes is known again. By induction on how deep applications stand in one another.
use Rattle.std.proofs.Common.{◌≡◌, refl, sym, ap, subst, ℕ, zero, suc, ◌≤◌, List, [], ◌∷◌, length, Bool, true, false, cond, nat_eq, is_some, arith}
use Rattle.std.specs.Prelude.{Option, Some, None, slice_get}
use Rattle.std.proofs.lemmas.Bool.{true≢false}
use Rattle.type_terms.specs.Keys.{Name}
use Rattle.erl_tree.specs.declared.token.Node.{Node}
use Rattle.erl_tree.specs.declared.expr.ExprKind.{ExprKind}
use Rattle.erl_tree.specs.declared.form.Function.{Function}
use Rattle.erl_tree.specs.declared.form.Module.{Module}
use Rattle.erl_tree.specs.Lists.{Among, Every}
use Rattle.erl_tree.specs.Functions.{function_ids, functions_of}
use Rattle.erl_runs.specs.Records.{records_of}
use Rattle.erl_runs.specs.Value.{Value, named_fun, closure, Environment, no_bindings, Outcome, came, raised, wrong, going, Run}
use Rattle.erl_runs.specs.Running.{goes_wrong, still_going, with_calls, Applies, Code, funs_in_function, funs_in_choices, taken_anew, run_clauses, run_kind, choices, code_with, code_of, arity_of, find_numbered, run_function, run_closure, enter, apply_within, apply}
use Rattle.erl_scope_rules.specs.ScopeFaults.{HasRightNames}
use Rattle.runs_with_right_names.specs.KnownValues.{RowHasFuns, IsKnownCode, IsKnownFunction, IsKnown}
use Rattle.runs_with_right_names.specs.SameRuns.{IsKnownOutcome}
use Rattle.runs_with_right_names.proofs.Held.{has, EndsHeld, SameRun}
use Rattle.runs_with_right_names.proofs.RightParts.{function-right, clause-right}
use Rattle.runs_with_right_names.proofs.Seen.{function-covered}
use Rattle.runs_with_right_names.proofs.FunNumbers.{StandAt, stand-append, stand-first, inside-same, clauses-same, code-nested, function-stands, function-there}
use Rattle.runs_with_right_names.proofs.RunSetting.{Setting}
use Rattle.runs_with_right_names.proofs.SameRuns as R

le-here : (n : ℕ) → n ≤ n
le-here n = omega arith

module _ (m : Module) (right : HasRightNames m) (outside : List (Node ExprKind)) (unbound : Outcome Value) where
  -- the code in which an unbound name gives what it gives, and that in which it goes wrong
  abbrev one : Code
  one = code_with unbound m outside

  abbrev other : Code
  other = code_of m outside

  abbrev Closed : ℕ → Environment → Type 0
  Closed number environment = IsKnownCode m environment (slice_get (code_of m outside).funs number)

  abbrev AllKnown : List Value → Type 0
  AllKnown vs = Every (IsKnown m outside) vs

  abbrev Same : ℕ → Run Value → Run Value → Type 0
  Same k r q = SameRun (IsKnownFunction m) Closed (IsKnown m outside) k r q

  wrong-same : (k : ℕ) → Same k (goes_wrong k) (goes_wrong k)
  wrong-same k = record { same = refl; held = tt; spends = le-here k }

  -- the arities of funs don't depend on unbound names
  arity-at : (v : Value) → arity_of other v ≡ arity_of one v
  arity-at (named_fun name arity) = refl
  arity-at (closure number environment) = refl
  arity-at _ = refl

  arity-same : arity_of other ≡ arity_of one
  arity-same = λ j v. arity-at v j

  -- ways of applying that are the same up to n steps enter a fun in the same way
  module _ (p q : Applies) (n : ℕ)
      (agree : (f : Value) (args : List Value) (k : ℕ) → k ≤ n → IsKnown m outside f → AllKnown args → Same k (p f args k) (q f args k))
      (one_none : (f : Value) (args : List Value) → p f args zero ≡ still_going zero)
      (other_none : (f : Value) (args : List Value) → q f args zero ≡ still_going zero) where
    abbrev setting : Setting
    setting = record {
      functions = function_ids m;
      records = records_of m;
      named = IsKnownFunction m;
      closed = Closed;
      at = StandAt other.funs;
      at_append = stand-append other.funs;
      closes = λ number environment e inner s r v. subst (IsKnownCode m environment) (sym (stand-first other.funs number e inner s)) (record { right = r; variables = v });
      knows = λ name arity h. h;
      unbound = unbound;
      arity = arity_of other;
      apply = p;
      also = q;
      steps = n;
      agree = agree;
    }

    -- the clauses of a function, where funs have these arities
    abbrev first_run : (Value → ℕ) → Function × ℕ → List Value → ℕ → Run Value
    first_run arity g args k = run_clauses taken_anew (choices unbound (records_of m) arity p g.0.clauses) g.1 no_bindings args k

    abbrev second_run : Function × ℕ → List Value → ℕ → Run Value
    second_run g args k = run_clauses taken_anew (choices wrong (records_of m) (arity_of other) q g.0.clauses) g.1 no_bindings args k

    clauses-applied : (g : Function × ℕ) → Among g.0 (functions_of m) → StandAt other.funs g.1 (funs_in_choices (choices wrong (records_of m) (arity_of other) q g.0.clauses)) → (args : List Value) → AllKnown args → (k : ℕ) → k ≤ n →
        Same k (first_run (arity_of one) g args k) (second_run g args k)
    clauses-applied g i s args a k l =
        subst (λ (arity : Value → ℕ). Same k (first_run arity g args k) (second_run g args k)) arity-same
        (R.clauses-same setting one_none other_none g.0.clauses (clause-right (function_ids m) (records_of m) g.0.clauses (function-right m right g.0 i)) (function-covered m right g.0 i (has no_bindings))
        g.1 s args a k l)

    function-applied : (name : Name) (arity : ℕ) (o : Option (Function × ℕ)) → find_numbered other.functions name arity ≡ o → is_some o ≡ true → (args : List Value) → AllKnown args → (k : ℕ) → k ≤ n →
        Same k (run_function one p o args k) (run_function other q o args k)
    function-applied name arity None e there args a k l = absurd (true≢false (sym there))
    function-applied name arity (Some g) e there args a k l =
        let s : Among g.0 (functions_of m) × StandAt other.funs g.1 (funs_in_function g.0) = function-stands m outside name arity g e in
        clauses-applied g s.0 (subst (StandAt other.funs g.1) (sym (clauses-same wrong (records_of m) (arity_of other) q g.0.clauses)) s.1) args a k l

    -- what applying a closure of this fun expression gives, where funs have these arities
    abbrev first_closure : (Value → ℕ) → Node ExprKind → ℕ → Environment → List Value → ℕ → Run Value
    first_closure arity d number environment args k = (run_kind unbound (records_of m) arity p d.kind).enter number environment args k

    abbrev second_closure : Node ExprKind → ℕ → Environment → List Value → ℕ → Run Value
    second_closure d number environment args k = (run_kind wrong (records_of m) (arity_of other) q d.kind).enter number environment args k

    closure-applied : (number : ℕ) (environment : Environment) (o : Option (Node ExprKind)) → slice_get other.funs number ≡ o → IsKnownCode m environment o → RowHasFuns (IsKnownFunction m) Closed environment →
        (args : List Value) → AllKnown args → (k : ℕ) → k ≤ n → Same k (run_closure one p o number environment args k) (run_closure other q o number environment args k)
    closure-applied number environment None e h row args a k l = wrong-same k
    closure-applied number environment (Some d) e h row args a k l =
        let s : StandAt other.funs (suc number) (run_kind wrong (records_of m) (arity_of other) q d.kind).inner =
        subst (StandAt other.funs (suc number)) (sym (inside-same wrong (records_of m) (arity_of other) q d.kind)) (code-nested m outside number d e) in
        subst (λ (arity : Value → ℕ). Same k (first_closure arity d (suc number) environment args k) (second_closure d (suc number) environment args k)) arity-same
        (R.enter-same setting one_none other_none d h.right environment row h.variables (suc number) s args a k l)

    arity-fits : (b : Bool) (k : ℕ) (r s : Run Value) → Same k r s → Same k (cond b r (goes_wrong k)) (cond b s (goes_wrong k))
    arity-fits true k r s h = h
    arity-fits false k r s h = wrong-same k

    entered : (f : Value) → IsKnown m outside f → (args : List Value) → AllKnown args → (k : ℕ) → k ≤ n → Same k (enter one p f args k) (enter other q f args k)
    entered (named_fun name arity) h args a k l =
        let s : Same k _ _ =
        arity-fits (nat_eq arity (length args)) k _ _ (function-applied name arity (find_numbered other.functions name arity) refl (function-there m outside name arity h) args a k l) in
        record { same = ap (λ r. with_calls (record { name = name; args = args; left = k } ∷ []) r) s.same; held = s.held; spends = s.spends }
    entered (closure number environment) h args a k l = closure-applied number environment (slice_get other.funs number) refl h.0 h.1 args a k l
    entered _ h args a k l = wrong-same k

  without-steps : (code : Code) (bound : ℕ) (f : Value) (args : List Value) → apply_within code bound f args zero ≡ still_going zero
  unfolding apply_within
  without-steps code bound f args = refl

  more : (k : ℕ) (r q : Run Value) → Same k r q → Same (suc k) r q
  more k r q s = let l : q.left ≤ k = s.spends in record { same = s.same; held = s.held; spends = omega arith }

  applied-within : (bound : ℕ) (f : Value) (args : List Value) (k : ℕ) → IsKnown m outside f → AllKnown args → Same k (apply_within one bound f args k) (apply_within other bound f args k)
  unfolding apply_within
  applied-within bound f args zero h a = record { same = refl; held = tt; spends = le-here zero }
  applied-within zero f args (suc k) h a = record { same = refl; held = tt; spends = omega arith }
  applied-within (suc bound) f args (suc k) h a =
      more k _ _ (entered (apply_within one bound) (apply_within other bound) k (λ g ws i l x y. applied-within bound g ws i x y) (without-steps one bound) (without-steps other bound) f h args a k (le-here k))

  -- applying a known value to known arguments
  pub applied : (f : Value) (args : List Value) (steps : ℕ) → IsKnown m outside f → AllKnown args → Same steps (apply one f args steps) (apply other f args steps)
  applied f args steps h a = applied-within steps f args steps h a

-- what came or was raised is known
pub known-outcome : (m : Module) (outside : List (Node ExprKind)) (o : Outcome Value) →
    EndsHeld (IsKnownFunction m) (λ number environment. IsKnownCode m environment (slice_get (code_of m outside).funs number)) (IsKnown m outside) o → IsKnownOutcome m outside o
known-outcome m outside (came v) h = h
known-outcome m outside (raised class v) h = h
known-outcome m outside wrong h = tt
known-outcome m outside going h = tt
