-- The order of keys is strict and total.
use Rattle.std.proofs.Common.{◌≡◌, refl, sym, ◌∙◌, ap, ap₂, ℕ, ◌<◌, ◌≤◌, ℤ, pos, negsuc, List, [], ◌∷◌, arith, Bool, true, false, nat_lt, nat_eq, subst, ◌⊎◌, inl, inr}
use Rattle.std.proofs.lemmas.Bool.{ltb-true, ltb-false, lt-ltb, le-ltb, and_parts, and_from, eqb-true, eq-eqb, true≢false, false≢true}
use Rattle.type_terms.specs.declared.term.Key.{Key}
use Rattle.type_terms.specs.declared.term.Key.TheVariants.{Int as IntKey, Atom as AtomKey}
use Rattle.type_terms.specs.Keys.{Name, same_name, same_key, lexicographic, name_lt, less_int, key_lt}

nat-irr : (m : ℕ) → nat_lt m m ≡ false
nat-irr m = le-ltb m m (omega arith)

nat-same : (m n : ℕ) → nat_lt m n ≡ false → nat_lt n m ≡ false → m ≡ n
nat-same m n p q = let a : n ≤ m = ltb-false m n p in let b : m ≤ n = ltb-false n m q in omega arith

nat-trans : (m n o : ℕ) → nat_lt m n ≡ true → nat_lt n o ≡ true → nat_lt m o ≡ true
nat-trans m n o p q = let a : m < n = ltb-true m n p in let b : n < o = ltb-true n o q in lt-ltb m o (omega arith)

lexicographic-is : (x y z : Bool) → x ≡ false → y ≡ false → lexicographic x y z ≡ z
lexicographic-is x y z p q = λ i. lexicographic (p i) (q i) z

pub name-irr : (a : List ℕ) → name_lt a a ≡ false
name-irr [] = refl
name-irr (m ∷ ms) = lexicographic-is _ _ (name_lt ms ms) (nat-irr m) (nat-irr m) ∙ name-irr ms

pub name-same : (a b : List ℕ) → name_lt a b ≡ false → name_lt b a ≡ false → a ≡ b
name-same [] [] e f = refl
name-same [] (n ∷ ns) e f = absurd (true≢false e)
name-same (m ∷ ms) [] e f = absurd (true≢false f)
name-same (m ∷ ms) (n ∷ ns) e f = go (nat_lt m n) (nat_lt n m) refl refl e f (name-same ms ns)
  where
    go : (x y : Bool) → nat_lt m n ≡ x → nat_lt n m ≡ y → lexicographic x y (name_lt ms ns) ≡ false → lexicographic y x (name_lt ns ms) ≡ false → (name_lt ms ns ≡ false → name_lt ns ms ≡ false → ms ≡ ns) → m ∷ ms ≡ n ∷ ns
    go true y p q e' f' h = absurd (true≢false e')
    go false true p q e' f' h = absurd (true≢false f')
    go false false p q e' f' h = ap₂ ◌∷◌ (nat-same m n p q) (h e' f')

lexicographic-view : (m n : ℕ) (z : Bool) → lexicographic (nat_lt m n) (nat_lt n m) z ≡ true → (m < n) ⊎ ((m ≡ n) × (z ≡ true))
lexicographic-view m n z e = go (nat_lt m n) (nat_lt n m) refl refl e
  where
    go : (x y : Bool) → nat_lt m n ≡ x → nat_lt n m ≡ y → lexicographic x y z ≡ true → (m < n) ⊎ ((m ≡ n) × (z ≡ true))
    go true y p q e' = inl (ltb-true m n p)
    go false true p q e' = absurd (false≢true e')
    go false false p q e' = inr (nat-same m n p q, e')

lexicographic-lt : (m n : ℕ) (z : Bool) → m < n → lexicographic (nat_lt m n) (nat_lt n m) z ≡ true
lexicographic-lt m n z l = ap (λ x. lexicographic x (nat_lt n m) z) (lt-ltb m n l)

lexicographic-eq : (m n : ℕ) (z : Bool) → m ≡ n → z ≡ true → lexicographic (nat_lt m n) (nat_lt n m) z ≡ true
lexicographic-eq m n z p e = lexicographic-is _ _ z (le-ltb m n (omega arith)) (le-ltb n m (omega arith)) ∙ e

name-trans : (a b c : List ℕ) → name_lt a b ≡ true → name_lt b c ≡ true → name_lt a c ≡ true
name-trans [] [] c h g = g
name-trans [] (n ∷ ns) [] h g = absurd (false≢true g)
name-trans [] (n ∷ ns) (o ∷ os) h g = refl
name-trans (m ∷ ms) [] c h g = absurd (false≢true h)
name-trans (m ∷ ms) (n ∷ ns) [] h g = absurd (false≢true g)
name-trans (m ∷ ms) (n ∷ ns) (o ∷ os) h g = go (lexicographic-view m n _ h) (lexicographic-view n o _ g) (name-trans ms ns os)
  where
    go : (m < n) ⊎ ((m ≡ n) × (name_lt ms ns ≡ true)) → (n < o) ⊎ ((n ≡ o) × (name_lt ns os ≡ true)) → (name_lt ms ns ≡ true → name_lt ns os ≡ true → name_lt ms os ≡ true) → lexicographic (nat_lt m o) (nat_lt o m) (name_lt ms os) ≡ true
    go (inl a) (inl b) t = lexicographic-lt m o _ (omega arith)
    go (inl a) (inr b) t = let q : n ≡ o = b.0 in lexicographic-lt m o _ (omega arith)
    go (inr a) (inl b) t = let q : m ≡ n = a.0 in lexicographic-lt m o _ (omega arith)
    go (inr a) (inr b) t = lexicographic-eq m o _ (a.0 ∙ b.0) (t a.1 b.1)

pub int-irr : (a : ℤ) → less_int a a ≡ false
int-irr (pos m) = nat-irr m
int-irr (negsuc m) = nat-irr m

pub int-same : (a b : ℤ) → less_int a b ≡ false → less_int b a ≡ false → a ≡ b
int-same (pos m) (pos n) e f = ap pos (nat-same m n e f)
int-same (pos m) (negsuc n) e f = absurd (true≢false f)
int-same (negsuc m) (pos n) e f = absurd (true≢false e)
int-same (negsuc m) (negsuc n) e f = ap negsuc (nat-same m n f e)

int-trans : (a b c : ℤ) → less_int a b ≡ true → less_int b c ≡ true → less_int a c ≡ true
int-trans (pos m) (pos n) (pos o) h g = nat-trans m n o h g
int-trans (pos m) (pos n) (negsuc o) h g = absurd (false≢true g)
int-trans (pos m) (negsuc n) c h g = absurd (false≢true h)
int-trans (negsuc m) (pos n) (pos o) h g = refl
int-trans (negsuc m) (pos n) (negsuc o) h g = absurd (false≢true g)
int-trans (negsuc m) (negsuc n) (pos o) h g = refl
int-trans (negsuc m) (negsuc n) (negsuc o) h g = nat-trans o n m g h

pub key-irr : (k : Key) → key_lt k k ≡ false
key-irr (IntKey n) = int-irr n
key-irr (AtomKey a) = name-irr a

pub key-same : (j k : Key) → key_lt j k ≡ false → key_lt k j ≡ false → j ≡ k
key-same (IntKey m) (IntKey n) e f = ap IntKey (int-same m n e f)
key-same (IntKey m) (AtomKey b) e f = absurd (true≢false e)
key-same (AtomKey a) (IntKey n) e f = absurd (true≢false f)
key-same (AtomKey a) (AtomKey b) e f = ap AtomKey (name-same a b e f)

pub key-trans : (i j k : Key) → key_lt i j ≡ true → key_lt j k ≡ true → key_lt i k ≡ true
key-trans (IntKey a) (IntKey b) (IntKey c) h g = int-trans a b c h g
key-trans (IntKey a) (IntKey b) (AtomKey c) h g = refl
key-trans (IntKey a) (AtomKey b) (IntKey c) h g = absurd (false≢true g)
key-trans (IntKey a) (AtomKey b) (AtomKey c) h g = refl
key-trans (AtomKey a) (IntKey b) k h g = absurd (false≢true h)
key-trans (AtomKey a) (AtomKey b) (IntKey c) h g = absurd (false≢true g)
key-trans (AtomKey a) (AtomKey b) (AtomKey c) h g = name-trans a b c h g

pub key-asym : (j k : Key) → key_lt j k ≡ true → key_lt k j ≡ false
key-asym j k h = go (key_lt k j) refl
  where
    go : (x : Bool) → key_lt k j ≡ x → x ≡ false
    go true e = absurd (true≢false (sym (key-trans j k j h e) ∙ key-irr j))
    go false e = refl

pub name-refl : (a : Name) → same_name a a ≡ true
name-refl [] = refl
name-refl (m ∷ ms) = and_from _ _ (eq-eqb m m refl) (name-refl ms)

pub name-is : (a b : Name) → same_name a b ≡ true → a ≡ b
name-is [] [] e = refl
name-is [] (n ∷ ns) e = absurd (false≢true e)
name-is (m ∷ ms) [] e = absurd (false≢true e)
name-is (m ∷ ms) (n ∷ ns) e = let h : (nat_eq m n ≡ true) × (same_name ms ns ≡ true) = and_parts _ _ e in ap₂ ◌∷◌ (eqb-true m n h.0) (name-is ms ns h.1)

pub key-refl : (k : Key) → same_key k k ≡ true
key-refl (IntKey (pos m)) = eq-eqb m m refl
key-refl (IntKey (negsuc m)) = eq-eqb m m refl
key-refl (AtomKey a) = name-refl a

pub key-is : (j k : Key) → same_key j k ≡ true → j ≡ k
key-is (IntKey (pos m)) (IntKey (pos n)) e = ap (λ z. IntKey (pos z)) (eqb-true m n e)
key-is (IntKey (negsuc m)) (IntKey (negsuc n)) e = ap (λ z. IntKey (negsuc z)) (eqb-true m n e)
key-is (IntKey (pos m)) (IntKey (negsuc n)) e = absurd (false≢true e)
key-is (IntKey (negsuc m)) (IntKey (pos n)) e = absurd (false≢true e)
key-is (IntKey m) (AtomKey b) e = absurd (false≢true e)
key-is (AtomKey a) (IntKey n) e = absurd (false≢true e)
key-is (AtomKey a) (AtomKey b) e = ap AtomKey (name-is a b e)

pub apart : (j k : Key) → (j ≡ k → ⊥) → same_key j k ≡ false
apart j k h = go (same_key j k) refl
  where
    go : (x : Bool) → same_key j k ≡ x → x ≡ false
    go true e = absurd (h (key-is j k e))
    go false e = refl

pub less-apart : (j k : Key) → key_lt j k ≡ true → j ≡ k → ⊥
less-apart j k l q = true≢false (sym (subst (λ z. key_lt j z ≡ true) (sym q) l) ∙ key-irr j)
