-- Arguments are the parameters exactly where each has the term of the variable with its number, and a name has that term exactly where it stands first at that position.
use Rattle.std.proofs.Common.{◌≡◌, refl, ap, ap₂, sym, subst, ◌∙◌, List, [], ◌∷◌, ◌||◌, ◌+◌, ◌<◌, ◌≤◌, length, map, take, get_or, ℕ, zero, suc, Bool, true, false, true≢false, arith, ◌⊎◌, inl, inr}
use Rattle.std.proofs.lemmas.Bool.{ltb-true, ltb-false, eqb-true}
use Rattle.std.specs.Prelude.{Option, Some, None as Nothing, cond, nat_lt, nat_eq}
use Rattle.std.specs.Option.{option_map}
use Rattle.std.specs.Str.{bytes_eq}
use Rattle.type_terms.specs.Keys.{Name, same_name}
use Rattle.type_terms.specs.declared.term.Term.{Term, Var}
use Rattle.type_terms.proofs.KeyLaws.{name-refl}
use Rattle.erl_runs.specs.Specs.{and_then, all_present}
use Rattle.typespecs_rules.specs.RegularUse.{variables_from}
use Rattle.typespecs_rules.specs.TypeFaults.{stands_among}
use Rattle.typespecs_rules.specs.TypeVariables.{place_among, parameters}
use Rattle.typespecs_cycles.proofs.Names.{bytes-same}
use Rattle.typespecs_cycles.proofs.VariableTerms.{same-number}

-- ---- lists of terms

abbrev first-of : {A : Type 0} → A → List A → A
first-of a [] = a
first-of a (b ∷ bs) = b

abbrev rest-of : {A : Type 0} → List A → List A
rest-of [] = []
rest-of (b ∷ bs) = bs

abbrev list-of : {A : Type 0} → Option (List A) → List A
list-of Nothing = []
list-of (Some l) = l

abbrev both : {A : Type 0} → Option A → Option (List A) → Option (List A)
both o os = and_then o (λ a. and_then os (λ more. Some (a ∷ more)))

present-split : {A : Type 0} (o : Option A) (os : Option (List A)) (x : A) (xs : List A) → both o os ≡ Some (x ∷ xs) → (o ≡ Some x) × (os ≡ Some xs)
present-split Nothing os x xs e = absurd (cc)
present-split (Some a) Nothing x xs e = absurd (cc)
present-split (Some a) (Some bs) x xs e = (ap (λ l. Some (first-of a (list-of l))) e, ap (λ l. Some (rest-of (list-of l))) e)

present-none : {A B : Type 0} (o : Option A) (os : Option (List A)) → both o os ≡ Some [] → B
present-none Nothing os e = absurd (cc)
present-none (Some a) Nothing e = absurd (cc)
present-none (Some a) (Some bs) e = absurd (cc)

module _ {A : Type 0} (f : A → Option Term) where
  -- arguments have the terms of all parameters from a number on
  abbrev pub Pass : ℕ → List A → List Name → Type 0
  Pass n args params = all_present (map f args) ≡ Some (variables_from n params)

  pub passes-length : (n : ℕ) (args : List A) (params : List Name) → Pass n args params → length args ≡ length params
  passes-length n [] [] e = refl
  passes-length n [] (x ∷ xs) e = absurd (cc)
  passes-length n (t ∷ ts) [] e = present-none (f t) (all_present (map f ts)) e
  passes-length n (t ∷ ts) (x ∷ xs) e = ap suc (passes-length (suc n) ts xs (present-split (f t) (all_present (map f ts)) (Var n) (variables_from (suc n) xs) e).1)

  pub passes-at : (n k : ℕ) (args : List A) (params : List Name) (t : A) → Pass n args params → k < length args → f (get_or args k t) ≡ Some (Var (n + k))
  passes-at n k [] params t e lt = absurd (omega arith)
  passes-at n k (a ∷ as') [] t e lt = present-none (f a) (all_present (map f as')) e
  passes-at n zero (a ∷ as') (x ∷ xs) t e lt =
      let same : n ≡ n + 0 = omega arith in (present-split (f a) (all_present (map f as')) (Var n) (variables_from (suc n) xs) e).0 ∙ ap (λ m. Some (Var m)) same
  passes-at n (suc k) (a ∷ as') (x ∷ xs) t e lt =
      let less : k < length as' = omega arith in
      let same : suc n + k ≡ n + suc k = omega arith in
      passes-at (suc n) k as' xs t (present-split (f a) (all_present (map f as')) (Var n) (variables_from (suc n) xs) e).1 less ∙ ap (λ m. Some (Var m)) same

  pub passes-all : (n : ℕ) (args : List A) (params : List Name) → length args ≡ length params → ((k : ℕ) (t : A) → k < length args → f (get_or args k t) ≡ Some (Var (n + k))) → Pass n args params
  passes-all n [] [] e h = refl
  passes-all n [] (x ∷ xs) e h = absurd (omega arith)
  passes-all n (t ∷ ts) [] e h = absurd (omega arith)
  passes-all n (t ∷ ts) (x ∷ xs) e h =
      let same : n + 0 ≡ n = omega arith in
      let lengths : length ts ≡ length xs = omega arith in
      ap₂ both (h zero t (omega arith) ∙ ap (λ m. Some (Var m)) same)
      (passes-all (suc n) ts xs lengths (λ k u lt. let more : suc k < suc (length ts) = omega arith in let next : n + suc k ≡ suc n + k = omega arith in h (suc k) u more ∙ ap (λ m. Some (Var m)) next))

-- ---- positions of names

suc-same : (o : Option ℕ) (k : ℕ) → option_map suc o ≡ Some (suc k) → o ≡ Some k
suc-same Nothing k e = absurd (cc)
suc-same (Some i) k e = ap Some (inner e)
  where
    inner : Some (suc i) ≡ Some (suc k) → i ≡ k
    inner q = let r : suc i ≡ suc k = some q in omega arith
      where
        some : Some (suc i) ≡ Some (suc k) → suc i ≡ suc k
        some s = cc

suc-zero : {A : Type 0} (o : Option ℕ) → option_map suc o ≡ Some zero → A
suc-zero Nothing e = absurd (cc)
suc-zero (Some i) e = absurd (inner e)
  where
    inner : Some (suc i) ≡ Some zero → ⊥
    inner q = let r : suc i ≡ zero = some q in omega arith
      where
        some : Some (suc i) ≡ Some zero → suc i ≡ zero
        some s = cc

pub place-at : (params : List Name) (k : ℕ) (x d : Name) → k < length params → x ≡ get_or params k d → stands_among x (take k params) ≡ false → place_among params x ≡ Some k
place-at [] k x d lt is new = absurd (omega arith)
place-at (p ∷ ps) zero x d lt is new = ap (λ b. cond b (Some 0) (option_map suc (place_among ps x))) (subst (λ y. same_name x y ≡ true) is (name-refl x))
place-at (p ∷ ps) (suc k) x d lt is new = go (same_name x p) refl new (λ h. place-at ps k x d (omega arith) is h)
  where
    go : (b : Bool) → same_name x p ≡ b → (b || stands_among x (take k ps)) ≡ false → (stands_among x (take k ps) ≡ false → place_among ps x ≡ Some k) → place_among (p ∷ ps) x ≡ Some (suc k)
    go true e h ih = absurd (true≢false h)
    go false e h ih = later (ih h)
      where
        later : place_among ps x ≡ Some k → place_among (p ∷ ps) x ≡ Some (suc k)
        later q = ap (λ c. cond c (Some 0) (option_map suc (place_among ps x))) e ∙ ap (option_map suc) q

abbrev IsPlace : List Name → ℕ → Name → Name → Type 0
IsPlace params k x d = (k < length params) × (same_name x (get_or params k d) ≡ true) × (stands_among x (take k params) ≡ false)

pub place-of : (params : List Name) (k : ℕ) (x d : Name) → place_among params x ≡ Some k → IsPlace params k x d
place-of [] k x d e = absurd (cc)
place-of (p ∷ ps) zero x d e = go (same_name x p) refl e
  where
    go : (b : Bool) → same_name x p ≡ b → cond b (Some 0) (option_map suc (place_among ps x)) ≡ Some zero → IsPlace (p ∷ ps) zero x d
    go true q h = (omega arith, q, refl)
    go false q h = suc-zero (place_among ps x) h
place-of (p ∷ ps) (suc k) x d e = go (same_name x p) refl e (λ h. place-of ps k x d h)
  where
    go : (b : Bool) → same_name x p ≡ b → cond b (Some 0) (option_map suc (place_among ps x)) ≡ Some (suc k) → (place_among ps x ≡ Some k → IsPlace ps k x d) → IsPlace (p ∷ ps) (suc k) x d
    go true q h ih = absurd (no-zero h)
      where
        no-zero : Some 0 ≡ Some (suc k) → ⊥
        no-zero s = let r : 0 ≡ suc k = inner s in omega arith
          where
            inner : Some 0 ≡ Some (suc k) → 0 ≡ suc k
            inner t = cc
    go false q h ih =
        let r : IsPlace ps k x d = ih (suc-same (place_among ps x) k h) in
        let lt : k < length ps = r.0 in
        let more : suc k < suc (length ps) = omega arith in
        (more, r.1, ap (λ b. b || stands_among x (take k ps)) q ∙ r.2)

pub term-of : (params : List Name) (x : Name) (k : ℕ) → place_among params x ≡ Some k → parameters params x ≡ Some (Var (0 + k))
term-of params x k e = ap (option_map (λ i. Var (0 + i))) e

pub place-by : (params : List Name) (x : Name) (k : ℕ) → parameters params x ≡ Some (Var (0 + k)) → place_among params x ≡ Some k
place-by params x k e = go (place_among params x) refl e
  where
    go : (o : Option ℕ) → place_among params x ≡ o → option_map (λ i. Var (0 + i)) o ≡ Some (Var (0 + k)) → place_among params x ≡ Some k
    go Nothing q h = absurd (cc)
    go (Some i) q h = let s : 0 + i ≡ 0 + k = same-number (0 + i) (0 + k) h in let r : i ≡ k = omega arith in q ∙ ap Some r

-- ---- the loop

module _ {A : Type 0} (f : A → Option Term) (params : List Name) (args : List A) (i : ℕ) (arg : A) (name : Name) (inside : i < length args) (fits : i < length params) (at : arg ≡ get_or args i arg) (named : name ≡ get_or params i name) where
  -- this argument has its variable's term
  pub passes-here : stands_among name (take i params) ≡ false → f arg ≡ parameters params name → (t : A) → f (get_or args i t) ≡ Some (Var (0 + i))
  passes-here new is t = ap f (get-same args i arg t inside ∙ sym at) ∙ (is ∙ term-of params name i (place-at params i name name fits named new))
    where
      get-same : (as' : List A) (j : ℕ) (a b : A) → j < length as' → get_or as' j b ≡ get_or as' j a
      get-same [] j a b lt = absurd (omega arith)
      get-same (c ∷ as') zero a b lt = refl
      get-same (c ∷ as') (suc j) a b lt = get-same as' j a b (omega arith)

  here : Pass f 0 args params → f arg ≡ Some (Var (0 + i))
  here e = ap f at ∙ passes-at f 0 i args params arg e inside

  -- a variable of another name is passed in its place, or none
  pub other-name : ((j : ℕ) → f arg ≡ Some (Var j) → (x : Name) × (same_name x name ≡ false) × (parameters params x ≡ Some (Var j))) → Pass f 0 args params → ⊥
  other-name never e = by (never (0 + i) (here e))
    where
      by : ((x : Name) × (same_name x name ≡ false) × (parameters params x ≡ Some (Var (0 + i)))) → ⊥
      by (x, differs, is) = true≢false (sym (place-of params i x name (place-by params x i is)).1 ∙ (ap (same_name x) (sym named) ∙ differs))

  -- the parameter stands before its own place too
  pub name-twice : stands_among name (take i params) ≡ true → f arg ≡ parameters params name → Pass f 0 args params → ⊥
  name-twice old is e = true≢false (sym old ∙ (place-of params i name name (place-by params name i (sym is ∙ here e))).2)

-- a term is told for each position up to this one
pub one-more : {A : Type 0} (f : A → Option Term) (args : List A) (i : ℕ) → ((k : ℕ) (t : A) → k < i → f (get_or args k t) ≡ Some (Var (0 + k))) → ((t : A) → f (get_or args i t) ≡ Some (Var (0 + i))) → (k : ℕ) (t : A) → k < i + 1 → f (get_or args k t) ≡ Some (Var (0 + k))
one-more f args i before here k t lt = go (split k i lt)
  where
    split : (a b : ℕ) → a < b + 1 → (a < b) ⊎ (a ≡ b)
    split a b l = by (nat_lt a b) refl
      where
        by : (c : Bool) → nat_lt a b ≡ c → (a < b) ⊎ (a ≡ b)
        by true q = inl (ltb-true a b q)
        by false q = let g : b ≤ a = ltb-false a b q in inr (omega arith)

    go : (k < i) ⊎ (k ≡ i) → f (get_or args k t) ≡ Some (Var (0 + k))
    go (inl l) = before k t l
    go (inr e) = subst (λ m. f (get_or args m t) ≡ Some (Var (0 + m))) (sym e) (here t)

-- ---- one argument

-- a variable of another name
pub another : (variables : Name → Option Term) (term : Option Term) (x a n : Name) (b : Bool) → a ≡ x → b ≡ bytes_eq a n → b ≡ false → term ≡ variables x → (i : ℕ) → term ≡ Some (Var i) → (y : Name) × (same_name y n ≡ false) × (variables y ≡ Some (Var i))
another variables term x a n b same test differs is i e = (x, sym (test ∙ (bytes-same a n ∙ ap (λ y. same_name y n) same)) ∙ differs, sym is ∙ e)

-- the name that stands at a position
pub named-at : (names : List Name) (i : ℕ) (r n : Name) → n ≡ r → r ≡ get_or names i r → n ≡ get_or names i n
named-at names i r n e is = subst (λ y. y ≡ get_or names i y) (sym e) is

-- an answer that refutes
pub refutes : {P : Type 0} (b : Bool) → b ≡ false → (P → ⊥) → (b ≡ true → P) × (P → b ≡ true)
refutes b e never = ((λ h. absurd (true≢false (sym h ∙ e))), (λ p. absurd (never p)))

-- what has no arguments passes no parameters
pub passes-none : (b : Bool) (params : List Name) → b ≡ nat_eq (length params) 0 → (b ≡ true → Some [] ≡ Some (variables_from 0 params)) × (Some [] ≡ Some (variables_from 0 params) → b ≡ true)
passes-none b [] e = ((λ h. refl), (λ h. e))
passes-none b (p ∷ ps) e = ((λ h. absurd (some (sym e ∙ h))), (λ h. absurd (cc)))
  where
    some : nat_eq (suc (length ps)) 0 ≡ true → ⊥
    some h = let q : suc (length ps) ≡ 0 = eqb-true (suc (length ps)) 0 h in omega arith
