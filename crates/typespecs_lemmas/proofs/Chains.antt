-- Chains of dependent things: where no node of a graph leads back to itself, a chain is shorter than the number of nodes that it may pass.
use Rattle.std.proofs.Common.{◌≡◌, refl, sym, ◌∙◌, ap, subst, ℕ, zero, suc, ◌+◌, ◌-◌, ◌<◌, ◌≤◌, List, [], ◌∷◌, length, get_or, Bool, true, false, arith, nat_lt, nat_eq}
use Rattle.std.specs.Prelude.{Option, Some, ◌||◌}
use Rattle.std.specs.List.{Contains}
use Rattle.std.proofs.lemmas.Bool.{true≢false, false≢true, ltb-true, ltb-false, eqb-true, eqb-false}
use Rattle.type_terms.specs.Paths.{IsPath, edge, onward}

-- ---- how many numbers pass a test

abbrev plus_if : Bool → ℕ → ℕ
plus_if true c = suc c
plus_if false c = c

-- how many numbers below n pass a test
abbrev count : (ℕ → Bool) → ℕ → ℕ
count f zero = zero
count f (suc n) = plus_if (f n) (count f n)

count-more : (f g : ℕ → Bool) → ((x : ℕ) → f x ≡ true → g x ≡ true) → (n : ℕ) → count f n ≤ count g n
count-more f g h zero = omega arith
count-more f g h (suc n) = go (f n) (g n) (h n) (count-more f g h n)
  where
    go : (a b : Bool) → (a ≡ true → b ≡ true) → count f n ≤ count g n → plus_if a (count f n) ≤ plus_if b (count g n)
    go true true k l = omega arith
    go true false k l = absurd (false≢true (k refl))
    go false true k l = omega arith
    go false false k l = l

count-strictly-more : (f g : ℕ → Bool) → ((x : ℕ) → f x ≡ true → g x ≡ true) → (y : ℕ) → f y ≡ false → g y ≡ true → (n : ℕ) → y < n → count f n < count g n
count-strictly-more f g h y e q zero l = absurd (omega arith)
count-strictly-more f g h y e q (suc n) l = go (nat_lt y n) refl (f n) (g n) refl refl (count-strictly-more f g h y e q n)
  where
    go : (x : Bool) → nat_lt y n ≡ x → (a b : Bool) → f n ≡ a → g n ≡ b → (y < n → count f n < count g n) → plus_if a (count f n) < plus_if b (count g n)
    go true r true true p s ih = let m : count f n < count g n = ih (ltb-true y n r) in omega arith
    go true r true false p s ih = absurd (true≢false (sym (h n p) ∙ s))
    go true r false true p s ih = let m : count f n < count g n = ih (ltb-true y n r) in omega arith
    go true r false false p s ih = ih (ltb-true y n r)
    go false r a b p s ih =
        let at_least : n ≤ y = ltb-false y n r in
        let same : y ≡ n = omega arith in
        let m : count f n ≤ count g n = count-more f g h n in
        last a b (sym p ∙ (ap f (sym same) ∙ e)) (sym s ∙ (ap g (sym same) ∙ q)) m
      where
        last : (a' b' : Bool) → a' ≡ false → b' ≡ true → count f n ≤ count g n → plus_if a' (count f n) < plus_if b' (count g n)
        last true b' u v m = absurd (true≢false u)
        last false true u v m = omega arith
        last false false u v m = absurd (false≢true v)

count-at-most : (f : ℕ → Bool) (n : ℕ) → count f n ≤ n
count-at-most f zero = omega arith
count-at-most f (suc n) = go (f n) (count-at-most f n)
  where
    go : (a : Bool) → count f n ≤ n → plus_if a (count f n) ≤ suc n
    go true l = omega arith
    go false l = omega arith

-- ---- distinct numbers

-- whether a number stands among others
abbrev stands : ℕ → List ℕ → Bool
stands n [] = false
stands n (m ∷ ms) = nat_eq n m || stands n ms

-- no number comes again
abbrev AreApart : List ℕ → Type 0
AreApart [] = Unit {0}
AreApart (n ∷ ns) = (stands n ns ≡ false) × AreApart ns

-- numbers from a first one on, so many
abbrev pub AreWithin : ℕ → ℕ → List ℕ → Type 0
AreWithin first many [] = Unit {0}
AreWithin first many (n ∷ ns) = (first ≤ n) × (n < first + many) × AreWithin first many ns

or-right : (a b : Bool) → b ≡ true → (a || b) ≡ true
or-right true b e = refl
or-right false b e = e

pub same-number : (n : ℕ) → nat_eq n n ≡ true
same-number n = go (nat_eq n n) refl
  where
    go : (b : Bool) → nat_eq n n ≡ b → b ≡ true
    go true e = refl
    go false e = absurd (eqb-false n n e refl)

or-first : (a b : Bool) → a ≡ true → (a || b) ≡ true
or-first true b e = refl
or-first false b e = absurd (false≢true e)

apart-few : (first many : ℕ) (ns : List ℕ) → AreApart ns → AreWithin first many ns → length ns ≤ count (λ x. stands (first + x) ns) many
apart-few first many [] a w = omega arith
apart-few first many (n ∷ ns) a w =
    let low : first ≤ n = w.0 in
    let high : n < first + many = w.1 in
    let inside : n - first < many = omega arith in
    let same : first + (n - first) ≡ n = omega arith in
    let rest : length ns ≤ count (λ x. stands (first + x) ns) many = apart-few first many ns a.1 w.2 in
    let more : count (λ x. stands (first + x) ns) many < count (λ x. stands (first + x) (n ∷ ns)) many =
    count-strictly-more (λ x. stands (first + x) ns) (λ x. stands (first + x) (n ∷ ns)) (λ x e. or-right (nat_eq (first + x) n) _ e) (n - first)
    (ap (λ x. stands x ns) same ∙ a.0) (or-first _ _ (ap (λ x. nat_eq x n) same ∙ same-number n)) many inside in
    omega arith

few : (first many : ℕ) (ns : List ℕ) → AreApart ns → AreWithin first many ns → length ns ≤ many
few first many ns a w = let m : length ns ≤ count (λ x. stands (first + x) ns) many = apart-few first many ns a w in let l : count (λ x. stands (first + x) ns) many ≤ many = count-at-most (λ x. stands (first + x) ns) many in omega arith

-- ---- chains in a graph

-- edges lead from a number to the next one, and so on
abbrev pub Leads : List (List ℕ) → ℕ → List ℕ → Type 0
Leads graph n [] = Unit {0}
Leads graph n (m ∷ ms) = Contains (get_or graph n []) m × Leads graph m ms

module _ (graph : List (List ℕ)) (acyclic : (n : ℕ) → IsPath graph n n → ⊥) where
  reached : (n m : ℕ) (ms : List ℕ) → IsPath graph n m → Leads graph m ms → (x : ℕ) → stands x ms ≡ true → IsPath graph n x
  reached n m [] p l x e = absurd (false≢true e)
  reached n m (k ∷ ks) p l x e = go (nat_eq x k) refl e (reached n k ks (onward n m k p l.0) l.1 x)
    where
      go : (b : Bool) → nat_eq x k ≡ b → (b || stands x ks) ≡ true → (stands x ks ≡ true → IsPath graph n x) → IsPath graph n x
      go true q r more = subst (λ y. IsPath graph n y) (sym (eqb-true x k q)) (onward n m k p l.0)
      go false q r more = more r

  not-again : (n : ℕ) (ms : List ℕ) → Leads graph n ms → stands n ms ≡ false
  not-again n [] l = refl
  not-again n (m ∷ ms) l = go (stands n (m ∷ ms)) refl
    where
      first : IsPath graph n m
      first = edge n m l.0

      whole : (b : Bool) → nat_eq n m ≡ b → (b || stands n ms) ≡ true → IsPath graph n n
      whole true q r = subst (λ y. IsPath graph n y) (sym (eqb-true n m q)) first
      whole false q r = reached n m ms first l.1 n r

      go : (b : Bool) → stands n (m ∷ ms) ≡ b → b ≡ false
      go true e = absurd (acyclic n (whole (nat_eq n m) refl e))
      go false e = refl

  are-apart : (n : ℕ) (ms : List ℕ) → Leads graph n ms → AreApart (n ∷ ms)
  are-apart n [] l = (refl, tt)
  are-apart n (m ∷ ms) l = (not-again n (m ∷ ms) l, are-apart m ms l.1)

  -- a chain passes at most as many numbers as there are
  pub chain-is-short : (first many n : ℕ) (ms : List ℕ) → Leads graph n ms → AreWithin first many (n ∷ ms) → suc (length ms) ≤ many
  chain-is-short first many n ms l w = few first many (n ∷ ms) (are-apart n ms l) w

-- ---- chains of things with numbers

-- things that have numbers, each of which leads to the next in a graph: so many edges
module _ {A : Type 0} (number : A → Option ℕ) (graph : List (List ℕ)) where
  abbrev pub Chain : ℕ → A → Type 0
  Chain zero x = (i : ℕ) × (number x ≡ Some i)
  Chain (suc k) x = (i : ℕ) × (number x ≡ Some i) × (y : A) × (j : ℕ) × (number y ≡ Some j) × Contains (get_or graph i []) j × Chain k y

  abbrev Numbers : ℕ → ℕ → ℕ → ℕ → Type 0
  Numbers first many k i = (ms : List ℕ) × Leads graph i ms × AreWithin first many (i ∷ ms) × (length ms ≡ k)

  same-some : (o : Option ℕ) (i j : ℕ) → o ≡ Some i → o ≡ Some j → i ≡ j
  same-some o i j e f = cc

  numbers-of : (first many : ℕ) → ((x : A) (i : ℕ) → number x ≡ Some i → (first ≤ i) × (i < first + many)) → (k : ℕ) (x : A) (i : ℕ) → number x ≡ Some i → Chain k x → Numbers first many k i
  numbers-of first many h zero x i e c = ([], tt, ((h x i e).0, (h x i e).1, tt), refl)
  numbers-of first many h (suc k) x i e c =
      let rest = numbers-of first many h k c.2 c.3 c.4 c.6 in
      let same = same-some (number x) c.0 i c.1 e in
      (c.3 ∷ rest.0, (subst (λ n. Contains (get_or graph n []) c.3) same c.5, rest.1), ((h x i e).0, (h x i e).1, rest.2), ap suc rest.3)

  -- where no number leads back to itself, a chain has fewer edges than there are numbers
  pub no-long-chain : ((n : ℕ) → IsPath graph n n → ⊥) → (first many : ℕ) → ((x : A) (i : ℕ) → number x ≡ Some i → (first ≤ i) × (i < first + many)) → (x : A) → Chain many x → ⊥
  no-long-chain acyclic first many h x c = go many x c (numbered many x c)
    where
      numbered : (k : ℕ) (y : A) → Chain k y → (i : ℕ) × (number y ≡ Some i)
      numbered zero y d = d
      numbered (suc k) y d = (d.0, d.1)

      go : (k : ℕ) (y : A) → Chain many y → (i : ℕ) × (number y ≡ Some i) → ⊥
      go k y d n =
          let all = numbers-of first many h many y n.0 n.1 d in
          let short : suc (length all.0) ≤ many = chain-is-short graph acyclic first many n.0 all.0 all.1 all.2 in
          let long : length all.0 ≡ many = all.3 in
          omega arith
