-- Two ways of applying that agree up to n steps give runs that agree up to n steps. So a bound that is at least the number of steps changes no run, and an application runs its function with one step less.
use Rattle.std.proofs.Common.{◌≡◌, refl, ◌∙◌, ap, ℕ, zero, suc, ◌<◌, ◌≤◌, List, [], ◌∷◌, ◌++◌, length, arith}
use Rattle.std.specs.Prelude.{nat_eq, slice_get}
use Rattle.erl_tree.specs.declared.expr.ExprKind.{ExprKind}
use Rattle.erl_runs.specs.Value.{Value, named_fun, closure, Environment, Outcome, came, raised, wrong, going, Call, Run}
use Rattle.erl_runs.specs.Membership.{calls_below}
use Rattle.erl_runs.specs.Running.{ends, still_going, with_calls, go_on, then, finally, run_kind, Applies, Code, arity_of, find_numbered, enter, apply_within, apply}
use Rattle.erl_runs.proofs.AlikeRuns.{RunRelation, Like, run_function-like, run_closure-like, cond-like}

le-here : (n : ℕ) → n ≤ n
le-here n = omega arith

-- one run, with at most m steps left, and fewer than m for each of its calls
pub record Same (A : Type 0) (m : ℕ) (r q : Run A) : Type 0 where
  pub same : r ≡ q
  pub spends : r.left ≤ m
  pub calls : calls_below m r.calls

below-more : (m k : ℕ) → m ≤ k → (cs : List Call) → calls_below m cs → calls_below k cs
below-more m k l [] h = tt
below-more m k l (c ∷ cs) h = (omega arith, below-more m k l cs h.1)

below-join : (k : ℕ) (cs ds : List Call) → calls_below k cs → calls_below k ds → calls_below k (cs ++ ds)
below-join k [] ds h g = g
below-join k (c ∷ cs) ds h g = (h.0, below-join k cs ds h.1 g)

go_on-same : (A B : Type 0) (x : Outcome A) (m n : ℕ) (f g : A → ℕ → Run B) → m ≤ n → ((a : A) (k : ℕ) → k ≤ n → Same B k (f a k) (g a k)) → Same B n (go_on x m f) (go_on x m g)
go_on-same A B (came a) m n f g l h = let s : Same B m (f a m) (g a m) = h a m l in let p : (f a m).left ≤ m = s.spends in record { same = s.same; spends = omega arith; calls = below-more m n l (f a m).calls s.calls }
go_on-same A B (raised class v) m n f g l h = record { same = refl; spends = l; calls = tt }
go_on-same A B wrong m n f g l h = record { same = refl; spends = l; calls = tt }
go_on-same A B going m n f g l h = record { same = refl; spends = l; calls = tt }

then-same : (A B : Type 0) (n : ℕ) (r q : Run A) (f g : A → ℕ → Run B) → Same A n r q → ((a : A) (k : ℕ) → k ≤ n → Same B k (f a k) (g a k)) → Same B n (then r f) (then q g)
unfolding then
then-same A B n r q f g s h =
    let a : Same B n (go_on r.outcome r.left f) (go_on r.outcome r.left g) = go_on-same A B r.outcome r.left n f g s.spends h in
    record { same = ap (λ t. with_calls r.calls t) a.same ∙ ap (λ t. then t g) s.same; spends = a.spends; calls = below-join n r.calls _ s.calls a.calls }

last-same : (n : ℕ) (r q : Run Value) (f g : Outcome Value → ℕ → Run Value) → Same Value n r q → ((k : ℕ) → f going k ≡ still_going k) → ((o : Outcome Value) (k : ℕ) → k ≤ n → Same Value k (f o k) (g o k)) → Same Value n (finally r f) (finally q g)
unfolding finally
last-same n r q f g s e h =
    let a : Same Value r.left (f r.outcome r.left) (g r.outcome r.left) = h r.outcome r.left s.spends in
    let l : r.left ≤ n = s.spends in
    let k : (f r.outcome r.left).left ≤ r.left = a.spends in
    record { same = ap (λ t. with_calls r.calls t) a.same ∙ ap (λ t. finally t g) s.same; spends = omega arith; calls = below-join n r.calls _ s.calls (below-more r.left n l (f r.outcome r.left).calls a.calls) }

abbrev sameness : RunRelation
sameness = record {
  shift = λ m. m;
  relates = Same;
  at_end = λ A o u e m. record { same = λ j. ends (e j) m; spends = le-here m; calls = tt };
  in_turn = then-same;
  at_last = last-same;
}

-- one run of an application with m + 1 steps: at most m are left, and no more for each of its calls
pub record Step (m : ℕ) (r q : Run Value) : Type 0 where
  pub same : r ≡ q
  pub spends : r.left ≤ m
  pub calls : calls_below (suc m) r.calls

up : (m : ℕ) (r q : Run Value) → Same Value m r q → Step m r q
up m r q s = record { same = s.same; spends = s.spends; calls = below-more m (suc m) (omega arith) r.calls s.calls }

listed-same : (c : Call) (m : ℕ) (r q : Run Value) → c.left < suc m → Step m r q → Step m (with_calls (c ∷ []) r) (with_calls (c ∷ []) q)
listed-same c m r q l s = record { same = ap (λ t. with_calls (c ∷ []) t) s.same; spends = s.spends; calls = (l, s.calls) }

-- ways of applying that agree up to n steps enter a fun alike
module _ (code : Code) (p q : Applies) (n : ℕ) (agree : (f : Value) (args : List Value) (m : ℕ) → m ≤ n → Same Value m (p f args m) (q f args m)) where
  tests-same : (t : ExprKind) → Like sameness n (run_kind code.unbound code.records (arity_of code) p t) (run_kind code.unbound code.records (arity_of code) q t) → (environment : Environment) → ((run_kind code.unbound code.records (arity_of code) p t).run 0 environment 0).outcome ≡ ((run_kind code.unbound code.records (arity_of code) q t).run 0 environment 0).outcome
  tests-same t h environment = ap (λ r. r.outcome) (h.runs 0 0 refl environment 0 (omega arith)).same

  pub enter-same : (f : Value) (args : List Value) (m : ℕ) → m ≤ n → Step m (enter code p f args m) (enter code q f args m)
  enter-same (named_fun name arity) args m l =
      listed-same (record { name = name; args = args; left = m }) m _ _ (omega arith) (up m _ _ (cond-like sameness (nat_eq arity (length args)) m _ _ (run_function-like sameness code p q n agree tests-same (find_numbered code.functions name arity) args m l)))
  enter-same (closure number environment) args m l = up m _ _ (run_closure-like sameness code p q n agree tests-same (slice_get code.funs number) number environment args m l)
  enter-same _ args m l = up m _ _ (sameness.at_end Value wrong wrong refl m)

taken : (m : ℕ) (r q : Run Value) → Step m r q → Same Value (suc m) r q
taken m r q s = let h : r.left ≤ m = s.spends in record { same = s.same; spends = omega arith; calls = s.calls }

-- bounds that are at least the number of steps give one run
pub bound-free : (code : Code) (a b : ℕ) (f : Value) (args : List Value) (n : ℕ) → n ≤ a → n ≤ b → Same Value n (apply_within code a f args n) (apply_within code b f args n)
unfolding apply_within
bound-free code a b f args zero l k = record { same = refl; spends = omega arith; calls = tt }
bound-free code zero b f args (suc n) l k = absurd (omega arith)
bound-free code (suc a) zero f args (suc n) l k = absurd (omega arith)
bound-free code (suc a) (suc b) f args (suc n) l k =
    taken n _ _ (enter-same code (apply_within code a) (apply_within code b) n (λ g ws m h. bound-free code a b g ws m (omega arith) (omega arith)) f args n (le-here n))

-- a bound that is at least the number of steps doesn't matter
pub within-apply : (code : Code) (bound : ℕ) (f : Value) (args : List Value) (steps : ℕ) → steps ≤ bound → apply_within code bound f args steps ≡ apply code f args steps
within-apply code bound f args steps l = (bound-free code bound steps f args steps l (le-here steps)).same

-- without a step an application is still going
pub apply-none : (code : Code) (f : Value) (args : List Value) → apply code f args zero ≡ still_going zero
unfolding apply_within
apply-none code f args = refl

-- an application takes a step, and then runs its function
pub apply-step : (code : Code) (f : Value) (args : List Value) (steps : ℕ) → apply code f args (suc steps) ≡ enter code (apply code) f args steps
unfolding apply_within
apply-step code f args n = (enter-same code (apply_within code n) (apply code) n (λ g ws m h. bound-free code n m g ws m h (le-here m)) f args n (le-here n)).same

-- an application leaves fewer steps than it had, and its calls have fewer
pub apply-spends : (code : Code) (f : Value) (args : List Value) (n : ℕ) → Step n (apply code f args (suc n)) (apply code f args (suc n))
unfolding apply_within
apply-spends code f args n = enter-same code (apply_within code n) (apply_within code n) n (λ g ws m h. bound-free code n n g ws m h h) f args n (le-here n)
