-- Runs that are the same stay the same in sequence: behind one another, in rows of parts, in clauses, in `try` and in comprehensions.
use Rattle.std.proofs.Common.{◌≡◌, refl, ap, sym, ◌∙◌, subst, ℕ, suc, ◌≤◌, List, [], ◌∷◌, ◌++◌, map, length, arith}
use Rattle.std.specs.Prelude.{Option, Some, None}
use Rattle.erl_tree.specs.Lists.{Every}
use Rattle.erl_runs.specs.Value.{Value, Environment, Class, error, exit, throw, Outcome, came, raised, wrong, going, Run}
use Rattle.erl_runs.specs.Running.{ends, gives, goes_wrong, with_calls, go_on, then, finally, gives_found, Part, Choice, funs_in, funs_in_choices, behind, run_all, taken, or_else, run_taken, run_clauses, class_name, run_of, run_catches, run_each}
use Rattle.runs_with_right_names.proofs.Held.{EndsHeld, FoundHeld}
use Rattle.runs_with_right_names.proofs.RunSetting.{Setting, Held, AllHeld, Same, SameIn}

pub le-here : (n : ℕ) → n ≤ n
le-here n = omega arith

pub le-trans : {k m n : ℕ} → k ≤ m → m ≤ n → k ≤ n
le-trans h l = omega arith

module _ (σ : Setting) where
  -- what an outcome has
  abbrev pub Ends : {A : Type 0} → (A → Type 0) → Outcome A → Type 0
  Ends holds o = EndsHeld σ.named σ.closed holds o

  pub ends-same : {A : Type 0} (holds : A → Type 0) (o : Outcome A) → Ends holds o → (k : ℕ) → Same σ holds k (ends o k) (ends o k)
  ends-same holds o h k = record { same = refl; held = h; spends = le-here k }

  pub gives-same : {A : Type 0} (holds : A → Type 0) (a : A) → holds a → (k : ℕ) → Same σ holds k (gives a k) (gives a k)
  gives-same holds a h k = record { same = refl; held = h; spends = le-here k }

  pub wrong-same : {A : Type 0} (holds : A → Type 0) (k : ℕ) → Same σ holds k (goes_wrong k) (goes_wrong k)
  wrong-same holds k = record { same = refl; held = tt; spends = le-here k }

  pub found-same : {A : Type 0} (holds : A → Type 0) (o : Option A) → FoundHeld σ.named σ.closed holds o → (k : ℕ) → Same σ holds k (gives_found o k) (gives_found o k)
  found-same holds None h k = wrong-same holds k
  found-same holds (Some a) h k = gives-same holds a h k

  go_on-same : {A B : Type 0} (holds : A → Type 0) (next : B → Type 0) (o : Outcome A) (m n : ℕ) (f g : A → ℕ → Run B) → m ≤ n → Ends holds o → ((a : A) (k : ℕ) → k ≤ n → holds a → Same σ next k (f a k) (g a k)) →
      Same σ next n (go_on o m f) (go_on o m g)
  go_on-same holds next (came a) m n f g l held h = let s : Same σ next m (f a m) (g a m) = h a m l held in let u : (g a m).left ≤ m = s.spends in record { same = s.same; held = s.held; spends = le-trans u l }
  go_on-same holds next (raised class v) m n f g l held h = record { same = refl; held = held; spends = l }
  go_on-same holds next wrong m n f g l held h = record { same = refl; held = tt; spends = l }
  go_on-same holds next going m n f g l held h = record { same = refl; held = tt; spends = l }

  pub then-same : {A B : Type 0} (holds : A → Type 0) (next : B → Type 0) (n : ℕ) (r q : Run A) (f g : A → ℕ → Run B) → Same σ holds n r q → ((a : A) (k : ℕ) → k ≤ n → holds a → Same σ next k (f a k) (g a k)) → Same σ next n (then r f) (then q g)
  unfolding then
  then-same holds next n r q f g s h =
      let a : Same σ next n (go_on q.outcome q.left f) (go_on q.outcome q.left g) = go_on-same holds next q.outcome q.left n f g s.spends s.held h in
      record { same = ap (λ t. then t f) s.same ∙ ap (λ t. with_calls q.calls t) a.same; held = a.held; spends = a.spends }

  pub finally-same : (n : ℕ) (r q : Run Value) (f g : Outcome Value → ℕ → Run Value) → Same σ (Held σ) n r q → ((o : Outcome Value) (k : ℕ) → k ≤ n → Ends (Held σ) o → Same σ (Held σ) k (f o k) (g o k)) → Same σ (Held σ) n (finally r f) (finally q g)
  unfolding finally
  finally-same n r q f g s h =
      let a : Same σ (Held σ) q.left (f q.outcome q.left) (g q.outcome q.left) = h q.outcome q.left s.spends s.held in
      let u : (g q.outcome q.left).left ≤ q.left = a.spends in
      record { same = ap (λ t. finally t f) s.same ∙ ap (λ t. with_calls q.calls t) a.same; held = a.held; spends = le-trans u s.spends }

  -- ---- rows of parts

  pub funs-same : {A X : Type 0} (f g : X → Part A) (xs : List X) → Every (λ x. (f x).funs ≡ (g x).funs) xs → funs_in (map f xs) ≡ funs_in (map g xs)
  funs-same f g [] h = refl
  funs-same f g (x ∷ xs) h = λ j. h.0 j ++ funs-same f g xs h.1 j

  pub choice_funs-same : {X : Type 0} (f g : X → Choice) (xs : List X) → Every (λ x. (f x).funs ≡ (g x).funs) xs → funs_in_choices (map f xs) ≡ funs_in_choices (map g xs)
  choice_funs-same f g [] h = refl
  choice_funs-same f g (x ∷ xs) h = λ j. h.0 j ++ choice_funs-same f g xs h.1 j

  pub run_all-same : {A X : Type 0} (holds : A → Type 0) (environment : Environment) (f g : X → Part A) (xs : List X) → Every (λ x. SameIn σ A holds environment (f x) (g x)) xs →
      (b c : ℕ) → b ≡ c → (k : ℕ) → k ≤ σ.steps → σ.at c (funs_in (map g xs)) → Same σ (λ found. Every holds found × (length found ≡ length xs)) k (run_all (map f xs) b environment k) (run_all (map g xs) c environment k)
  run_all-same {A} holds environment f g [] h b c p k l at = gives-same (λ found. Every holds found × (length found ≡ 0)) [] (tt, refl) k
  run_all-same {A} holds environment f g (x ∷ xs) h b c p k l at =
      let here : σ.at c (g x).funs × σ.at (behind c (g x).funs) (funs_in (map g xs)) = σ.at_append c (g x).funs (funs_in (map g xs)) at in
      then-same holds (λ found. Every holds found × (length found ≡ suc (length xs))) k _ _ _ _ (h.0.runs b c p k l here.0)
      (λ v i u held. then-same (λ found. Every holds found × (length found ≡ length xs)) (λ found. Every holds found × (length found ≡ suc (length xs))) i _ _ _ _
      (run_all-same holds environment f g xs h.1 (behind b (f x).funs) (behind c (g x).funs) (λ j. behind (p j) (h.0.funs j)) i (le-trans u l) here.1)
      (λ vs m w all. gives-same (λ found. Every holds found × (length found ≡ suc (length xs))) (v ∷ vs) ((held, all.0), ap suc all.1) m))

  -- ---- clauses

  -- clauses that take the values in one way and whose bodies are the same then
  pub record Goes (takes : Choice → List Value → Environment → Option Environment) (vs : List Value) (environment : Environment) (c d : Choice) : Type 0 where
    pub funs : c.funs ≡ d.funs
    pub taken : takes c vs environment ≡ takes d vs environment
    pub runs : (out : Environment) → takes d vs environment ≡ Some out → (a b : ℕ) → a ≡ b → (k : ℕ) → k ≤ σ.steps → σ.at b d.funs → Same σ (Held σ) k (c.run a out k) (d.run b out k)

  -- what is chosen, and otherwise what else there is
  chosen-same : (c d : Choice) (o u : Option Environment) → o ≡ u → (a b : ℕ) (k : ℕ) → ((out : Environment) → u ≡ Some out → Same σ (Held σ) k (c.run a out k) (d.run b out k)) →
      (r q : Run Value) → Same σ (Held σ) k r q → Same σ (Held σ) k (or_else (run_taken c o a k) r) (or_else (run_taken d u b k) q)
  chosen-same c d o None e a b k h r q s = subst (λ w. Same σ (Held σ) k (or_else (run_taken c w a k) r) q) (sym e) s
  chosen-same c d o (Some out) e a b k h r q s = subst (λ w. Same σ (Held σ) k (or_else (run_taken c w a k) r) (d.run b out k)) (sym e) (h out refl)

  pub run_clauses-same : {X : Type 0} (takes : Choice → List Value → Environment → Option Environment) (vs : List Value) (environment : Environment) (f g : X → Choice) (xs : List X) → Every (λ x. Goes takes vs environment (f x) (g x)) xs →
      (a b : ℕ) → a ≡ b → (k : ℕ) → k ≤ σ.steps → σ.at b (funs_in_choices (map g xs)) → Same σ (Held σ) k (run_clauses takes (map f xs) a environment vs k) (run_clauses takes (map g xs) b environment vs k)
  run_clauses-same takes vs environment f g [] h a b p k l at = wrong-same (Held σ) k
  run_clauses-same takes vs environment f g (x ∷ xs) h a b p k l at =
      let here : σ.at b (g x).funs × σ.at (behind b (g x).funs) (funs_in_choices (map g xs)) = σ.at_append b (g x).funs (funs_in_choices (map g xs)) at in
      chosen-same (f x) (g x) (takes (f x) vs environment) (takes (g x) vs environment) h.0.taken a b k (λ out e. h.0.runs out e a b p k l here.0) _ _
      (run_clauses-same takes vs environment f g xs h.1 (behind a (f x).funs) (behind b (g x).funs) (λ j. behind (p j) (h.0.funs j)) k l here.1)

  -- ---- try

  pub run_of-same : {X : Type 0} (v : Value) (environment : Environment) (f g : X → Choice) (xs : List X) → Held σ v → Every (λ x. Goes taken (v ∷ []) environment (f x) (g x)) xs →
      (a b : ℕ) → a ≡ b → (k : ℕ) → k ≤ σ.steps → σ.at b (funs_in_choices (map g xs)) → Same σ (Held σ) k (run_of (map f xs) a environment v k) (run_of (map g xs) b environment v k)
  run_of-same v environment f g [] held h a b p k l at = gives-same (Held σ) v held k
  run_of-same v environment f g (x ∷ xs) held h a b p k l at = run_clauses-same taken (v ∷ []) environment f g (x ∷ xs) h a b p k l at

  pub run_catches-same : {X : Type 0} (class : Class) (v : Value) (environment : Environment) (f g : X → Choice) (xs : List X) → Held σ v → Every (λ x. Goes taken (class_name class ∷ v ∷ []) environment (f x) (g x)) xs →
      (a b : ℕ) → a ≡ b → (k : ℕ) → k ≤ σ.steps → σ.at b (funs_in_choices (map g xs)) → Same σ (Held σ) k (run_catches (map f xs) a environment class v k) (run_catches (map g xs) b environment class v k)
  run_catches-same class v environment f g [] held h a b p k l at = ends-same (Held σ) (raised class v) held k
  run_catches-same class v environment f g (x ∷ xs) held h a b p k l at =
      let here : σ.at b (g x).funs × σ.at (behind b (g x).funs) (funs_in_choices (map g xs)) = σ.at_append b (g x).funs (funs_in_choices (map g xs)) at in
      chosen-same (f x) (g x) (taken (f x) (class_name class ∷ v ∷ []) environment) (taken (g x) (class_name class ∷ v ∷ []) environment) h.0.taken a b k (λ out e. h.0.runs out e a b p k l here.0) _ _
      (run_catches-same class v environment f g xs held h.1 (behind a (f x).funs) (behind b (g x).funs) (λ j. behind (p j) (h.0.funs j)) k l here.1)

  pub class-held : (class : Class) → Held σ (class_name class)
  class-held error = tt
  class-held exit = tt
  class-held throw = tt

  -- ---- comprehensions

  pub run_each-same : {A : Type 0} (holds : A → Type 0) (f g : A → ℕ → Run (List Value)) (n : ℕ) → ((a : A) → holds a → (k : ℕ) → k ≤ n → Same σ (AllHeld σ) k (f a k) (g a k)) → (xs : List A) → Every holds xs →
      (k : ℕ) → k ≤ n → Same σ (AllHeld σ) k (run_each f xs k) (run_each g xs k)
  run_each-same holds f g n h [] all k l = gives-same (AllHeld σ) [] tt k
  run_each-same holds f g n h (x ∷ xs) all k l =
      then-same (AllHeld σ) (AllHeld σ) k _ _ _ _ (h x all.0 k l)
      (λ vs i u held. then-same (AllHeld σ) (AllHeld σ) i _ _ _ _ (run_each-same holds f g n h xs all.1 i (le-trans u l)) (λ ws m w more. gives-same (AllHeld σ) (vs ++ ws) (every-join (Held σ) vs ws held more) m))
    where
      every-join : {A : Type 0} (P : A → Type 0) (vs ws : List A) → Every P vs → Every P ws → Every P (vs ++ ws)
      every-join P [] ws h k = k
      every-join P (v ∷ vs) ws h k = (h.0, every-join P vs ws h.1 k)
