-- A run that ended ends so with more steps too, and then they are left.
use Rattle.std.proofs.Common.{◌≡◌, refl, sym, subst, ℕ, zero, suc, ◌+◌, ◌≤◌, List, [], ◌∷◌, length, arith}
use Rattle.std.specs.Prelude.{nat_eq, ◌≢◌, slice_get}
use Rattle.erl_runs.specs.Value.{Value, named_fun, closure, Outcome, came, raised, wrong, going, Call, Run}
use Rattle.erl_runs.specs.Running.{goes_wrong, still_going, with_calls, go_on, then, finally, Applies, Code, find_numbered, enter, apply}
use Rattle.erl_runs.proofs.AlikeRuns.{RunRelation, run_function-like, run_closure-like, cond-like}
use Rattle.erl_runs.proofs.BoundFree.{apply-none, apply-step}

le-here : (n : ℕ) → n ≤ n
le-here n = omega arith

-- the second outcome is the first, with so many steps left, unless the first is still going
abbrev kept : {A : Type 0} → (first second : Outcome A) → (left wanted : ℕ) → Type 0
kept (came a) second left wanted = (second ≡ came a) × (left ≡ wanted)
kept (raised class v) second left wanted = (second ≡ raised class v) × (left ≡ wanted)
kept wrong second left wanted = (second ≡ wrong) × (left ≡ wanted)
kept going second left wanted = Unit {0}

kept-same : {A : Type 0} (first second : Outcome A) → first ≡ second → (left : ℕ) → kept first second left left
kept-same (came a) second e left = (sym e, refl)
kept-same (raised class v) second e left = (sym e, refl)
kept-same wrong second e left = (sym e, refl)
kept-same going second e left = tt

kept-out : {A : Type 0} (first second : Outcome A) (left wanted : ℕ) → kept first second left wanted → first ≢ going → (second ≡ first) × (left ≡ wanted)
kept-out (came a) second left wanted h n = h
kept-out (raised class v) second left wanted h n = h
kept-out wrong second left wanted h n = h
kept-out going second left wanted h n = absurd (n refl)

module _ (more : ℕ) where
  -- a run with m steps, and one with more
  record More (A : Type 0) (m : ℕ) (r q : Run A) : Type 0 where
    pub ends : kept r.outcome q.outcome q.left (r.left + more)
    pub spends : r.left ≤ m

  go_on-more : (A B : Type 0) (x y : Outcome A) (m l n : ℕ) (f g : A → ℕ → Run B) → m ≤ n → kept x y l (m + more) → ((a : A) (k : ℕ) → k ≤ n → More B k (f a k) (g a (k + more))) → More B n (go_on x m f) (go_on y l g)
  go_on-more A B (came a) y m l n f g h c s =
      let t : More B m (f a m) (g a (m + more)) = s a m h in
      let p : (f a m).left ≤ m = t.spends in
      subst (λ z. More B n (f a m) (go_on z l g)) (sym c.0) (subst (λ z. More B n (f a m) (g a z)) (sym c.1) (record { ends = t.ends; spends = omega arith }))
  go_on-more A B (raised class v) y m l n f g h c s = subst (λ z. More B n (record { outcome = raised class v; left = m; calls = [] }) (go_on z l g)) (sym c.0) (record { ends = (refl, c.1); spends = h })
  go_on-more A B wrong y m l n f g h c s = subst (λ z. More B n (goes_wrong m) (go_on z l g)) (sym c.0) (record { ends = (refl, c.1); spends = h })
  go_on-more A B going y m l n f g h c s = record { ends = tt; spends = h }

  then-more : (A B : Type 0) (n : ℕ) (r q : Run A) (f g : A → ℕ → Run B) → More A n r q → ((a : A) (k : ℕ) → k ≤ n → More B k (f a k) (g a (k + more))) → More B n (then r f) (then q g)
  unfolding then
  then-more A B n r q f g s h =
      let t : More B n (go_on r.outcome r.left f) (go_on q.outcome q.left g) = go_on-more A B r.outcome q.outcome r.left q.left n f g s.spends s.ends h in
      record { ends = t.ends; spends = t.spends }

  last-ended : (x y : Outcome Value) (m l n : ℕ) (f g : Outcome Value → ℕ → Run Value) → m ≤ n → y ≡ x → l ≡ m + more → More Value m (f x m) (g x (m + more)) → More Value n (f x m) (g y l)
  last-ended x y m l n f g h e d t =
      let p : (f x m).left ≤ m = t.spends in
      subst (λ z. More Value n (f x m) (g z l)) (sym e) (subst (λ z. More Value n (f x m) (g x z)) (sym d) (record { ends = t.ends; spends = omega arith }))

  last_on-more : (x y : Outcome Value) (m l n : ℕ) (f g : Outcome Value → ℕ → Run Value) → m ≤ n → kept x y l (m + more) → ((k : ℕ) → f going k ≡ still_going k) → ((o : Outcome Value) (k : ℕ) → k ≤ n → More Value k (f o k) (g o (k + more))) → More Value n (f x m) (g y l)
  last_on-more going y m l n f g h c e s = subst (λ r. More Value n r (g y l)) (sym (e m)) (record { ends = tt; spends = h })
  last_on-more (came v) y m l n f g h c e s = last-ended (came v) y m l n f g h c.0 c.1 (s (came v) m h)
  last_on-more (raised class v) y m l n f g h c e s = last-ended (raised class v) y m l n f g h c.0 c.1 (s (raised class v) m h)
  last_on-more wrong y m l n f g h c e s = last-ended wrong y m l n f g h c.0 c.1 (s wrong m h)

  last-more : (n : ℕ) (r q : Run Value) (f g : Outcome Value → ℕ → Run Value) → More Value n r q → ((k : ℕ) → f going k ≡ still_going k) → ((o : Outcome Value) (k : ℕ) → k ≤ n → More Value k (f o k) (g o (k + more))) → More Value n (finally r f) (finally q g)
  unfolding finally
  last-more n r q f g s e h =
      let t : More Value n (f r.outcome r.left) (g q.outcome q.left) = last_on-more r.outcome q.outcome r.left q.left n f g s.spends s.ends e h in
      record { ends = t.ends; spends = t.spends }

  abbrev moreness : RunRelation
  moreness = record {
    shift = λ m. m + more;
    relates = More;
    at_end = λ A o u e m. record { ends = kept-same o u e (m + more); spends = le-here m };
    in_turn = then-more;
    at_last = last-more;
  }

  listed-more : (c d : Call) (m : ℕ) (r q : Run Value) → More Value m r q → More Value m (with_calls (c ∷ []) r) (with_calls (d ∷ []) q)
  listed-more c d m r q s = record { ends = s.ends; spends = s.spends }

  module _ (code : Code) (p : Applies) (n : ℕ) (agree : (f : Value) (args : List Value) (m : ℕ) → m ≤ n → More Value m (p f args m) (p f args (m + more))) where
    enter-more : (f : Value) (args : List Value) (m : ℕ) → m ≤ n → More Value m (enter code p f args m) (enter code p f args (m + more))
    enter-more (named_fun name arity) args m l =
        listed-more (record { name = name; args = args; left = m }) (record { name = name; args = args; left = m + more }) m _ _ (cond-like moreness (nat_eq arity (length args)) m _ _ (run_function-like moreness code p p n agree (λ t h environment. refl) (find_numbered code.functions name arity) args m l))
    enter-more (closure number environment) args m l = run_closure-like moreness code p p n agree (λ t h inner. refl) (slice_get code.funs number) number environment args m l
    enter-more _ args m l = moreness.at_end Value wrong wrong refl m

  taken : (m : ℕ) (r q : Run Value) → More Value m r q → More Value (suc m) r q
  taken m r q s = let h : r.left ≤ m = s.spends in record { ends = s.ends; spends = omega arith }

  more-upto : (code : Code) (n : ℕ) (f : Value) (args : List Value) (m : ℕ) → m ≤ n → More Value m (apply code f args m) (apply code f args (m + more))
  more-upto code n f args zero l = subst (λ r. More Value zero r (apply code f args (zero + more))) (sym (apply-none code f args)) (record { ends = tt; spends = le-here zero })
  more-upto code zero f args (suc m) l = absurd (omega arith)
  more-upto code (suc n) f args (suc m) l =
      let e : suc m + more ≡ suc (m + more) = omega arith in
      let h : More Value m (enter code (apply code) f args m) (enter code (apply code) f args (m + more)) =
      enter-more code (apply code) m (λ g ws k u. more-upto code n g ws k (omega arith)) f args m (le-here m) in
      taken m _ _ (subst (λ s. More Value m (apply code f args (suc m)) (apply code f args s)) (sym e)
      (subst (λ r. More Value m (apply code f args (suc m)) r) (sym (apply-step code f args (m + more)))
      (subst (λ r. More Value m r (enter code (apply code) f args (m + more))) (sym (apply-step code f args m)) h)))

-- a run that ended ends so with more steps, which are left
pub ended-more : (code : Code) (f : Value) (args : List Value) (steps more : ℕ) → (apply code f args steps).outcome ≢ going → ((apply code f args (steps + more)).outcome ≡ (apply code f args steps).outcome) × ((apply code f args (steps + more)).left ≡ (apply code f args steps).left + more)
ended-more code f args steps more n =
    let s : More more Value steps (apply code f args steps) (apply code f args (steps + more)) = more-upto more code steps f args steps (le-here steps) in
    kept-out _ _ _ _ s.ends n
