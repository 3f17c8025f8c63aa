-- Contractive definitions whose names are defined have ranks: a definition's rank is the number of definitions that it reaches. Whether one reaches another is asked of finitely many, so that it is not refuted that all the answers are there.
use Rattle.std.proofs.Common.{◌≡◌, refl, sym, ◌∙◌, ap, subst, ℕ, zero, suc, ◌<◌, ◌≤◌, List, [], ◌∷◌, length, Bool, true, false, arith, nat_lt, ◌↔◌}
use Rattle.std.proofs.lemmas.Bool.{true≢false, false≢true, ltb-true, ltb-false}
use Rattle.std.specs.Prelude.{Some, slice_get}
use Rattle.type_terms.specs.declared.term.Def.{Def}
use Rattle.type_terms.specs.declared.term.Term.{Term, Name}
use Rattle.type_terms.specs.Definitions.{IsBarePart, IsOpenIn, open_in, Reaches, directly, by_way_of, AreDefinitions, IsChain, IsChainAfter}
use Rattle.type_terms.proofs.Ranks.{Ranked}
use Rattle.type_terms.proofs.ReadingStability.{Stable}
use Rattle.type_terms.proofs.PartLaws.{bare-into, bare-part, contains-at}

-- a decision
abbrev Decided : Type 0 → Type 0
Decided A = (b : Bool) × ((b ≡ true) ↔ A)

not-undecided : (A : Type 0) → (Decided A → ⊥) → ⊥
not-undecided A h = h (false, ((λ e. absurd (false≢true e)), (λ a. absurd (h (true, ((λ e. a), (λ x. refl)))))))

-- finitely many facts that are not refuted one by one are not refuted together
below-all : (P : ℕ → Type 0) → ((x : ℕ) → (P x → ⊥) → ⊥) → (n : ℕ) → (((x : ℕ) → x < n → P x) → ⊥) → ⊥
below-all P h zero k = k (λ x l. absurd (omega arith))
below-all P h (suc n) k = h n (λ here. below-all P h n (λ before. k (λ x l. go x l here before (nat_lt x n) refl)))
  where
    go : (x : ℕ) → x < suc n → P n → ((y : ℕ) → y < n → P y) → (b : Bool) → nat_lt x n ≡ b → P x
    go x l here before true e = before x (ltb-true x n e)
    go x l here before false e = let g : n ≤ x = ltb-false x n e in let q : n ≡ x = omega arith in subst P q here

abbrev plus_if : Bool → ℕ → ℕ
plus_if true c = suc c
plus_if false c = c

-- how many numbers below n pass a test
abbrev count : (ℕ → Bool) → ℕ → ℕ
count f zero = zero
count f (suc n) = plus_if (f n) (count f n)

count-more : (f g : ℕ → Bool) → ((x : ℕ) → f x ≡ true → g x ≡ true) → (n : ℕ) → count f n ≤ count g n
count-more f g h zero = omega arith
count-more f g h (suc n) = go (f n) (g n) (h n) (count-more f g h n)
  where
    go : (a b : Bool) → (a ≡ true → b ≡ true) → count f n ≤ count g n → plus_if a (count f n) ≤ plus_if b (count g n)
    go true true k l = omega arith
    go true false k l = absurd (false≢true (k refl))
    go false true k l = omega arith
    go false false k l = l

count-strictly-more : (f g : ℕ → Bool) → ((x : ℕ) → f x ≡ true → g x ≡ true) → (y : ℕ) → f y ≡ false → g y ≡ true → (n : ℕ) → y < n → count f n < count g n
count-strictly-more f g h y e q zero l = absurd (omega arith)
count-strictly-more f g h y e q (suc n) l = go (nat_lt y n) refl (f n) (g n) refl refl (count-strictly-more f g h y e q n)
  where
    go : (x : Bool) → nat_lt y n ≡ x → (a b : Bool) → f n ≡ a → g n ≡ b → (y < n → count f n < count g n) → plus_if a (count f n) < plus_if b (count g n)
    go true r true true p s ih = let m : count f n < count g n = ih (ltb-true y n r) in omega arith
    go true r true false p s ih = absurd (true≢false (sym (h n p) ∙ s))
    go true r false true p s ih = let m : count f n < count g n = ih (ltb-true y n r) in omega arith
    go true r false false p s ih = ih (ltb-true y n r)
    go false r a b p s ih =
        let at_least : n ≤ y = ltb-false y n r in
        let same : y ≡ n = omega arith in
        let m : count f n ≤ count g n = count-more f g h n in
        last a b (sym p ∙ (ap f (sym same) ∙ e)) (sym s ∙ (ap g (sym same) ∙ q)) m
      where
        last : (a' b' : Bool) → a' ≡ false → b' ≡ true → count f n ≤ count g n → plus_if a' (count f n) < plus_if b' (count g n)
        last true b' u v m = absurd (true≢false u)
        last false true u v m = omega arith
        last false false u v m = absurd (false≢true v)

count-all : (n : ℕ) → count (λ x. true) n ≡ n
count-all zero = refl
count-all (suc n) = ap suc (count-all n)

count-bound : (f : ℕ → Bool) (y : ℕ) → f y ≡ false → (n : ℕ) → y < n → count f n < n
count-bound f y e n l = subst (λ m. count f n < m) (count-all n) (count-strictly-more f (λ x. true) (λ x p. refl) y e refl n l)

count-none : (f : ℕ → Bool) → ((x : ℕ) → f x ≡ false) → (n : ℕ) → count f n ≡ zero
count-none f h zero = refl
count-none f h (suc n) = ap (λ b. plus_if b (count f n)) (h n) ∙ count-none f h n

get-below : {X : Type 0} (xs : List X) (n : ℕ) (x : X) → slice_get xs n ≡ Some x → n < length xs
get-below [] n x e = absurd (cc)
get-below (y ∷ ys) zero x e = omega arith
get-below (y ∷ ys) (suc n) x e = let l : n < length ys = get-below ys n x e in omega arith

module _ (defs : List Def) (right : AreDefinitions defs) where
  -- what is reached has a definition, and so has what reaches
  reaches-from : (n m : ℕ) → Reaches defs n m → n < length defs
  reaches-from _ _ (directly n m def args e b) = get-below defs n def e
  reaches-from _ _ (by_way_of n l m r q) = reaches-from n l r

  -- the table of all answers
  Table : Type 0
  Table = (n : ℕ) → n < length defs → (m : ℕ) → m < length defs → Decided (Reaches defs n m)

  no-missing-table : (Table → ⊥) → ⊥
  unfolding Table
  no-missing-table k = below-all (λ n. (m : ℕ) → m < length defs → Decided (Reaches defs n m))
      (λ n k'. below-all (λ m. Decided (Reaches defs n m)) (λ m. not-undecided (Reaches defs n m)) (length defs) k') (length defs) k

  module _ (table : Table) where
    entry : (n m : ℕ) → (a b : Bool) → nat_lt n (length defs) ≡ a → nat_lt m (length defs) ≡ b → Bool
    unfolding Table
    entry n m true true p q = (table n (ltb-true n _ p) m (ltb-true m _ q)).0
    entry n m true false p q = false
    entry n m false b p q = false

    reach : ℕ → ℕ → Bool
    reach n m = entry n m (nat_lt n (length defs)) (nat_lt m (length defs)) refl refl

    reach-out : (n m : ℕ) → reach n m ≡ true → Reaches defs n m
    unfolding Table entry reach
    reach-out n m e = go (nat_lt n (length defs)) (nat_lt m (length defs)) refl refl e
      where
        go : (a b : Bool) (p : nat_lt n (length defs) ≡ a) (q : nat_lt m (length defs) ≡ b) → entry n m a b p q ≡ true → Reaches defs n m
        go true true p q e' = (table n (ltb-true n _ p) m (ltb-true m _ q)).1.0 e'
        go true false p q e' = absurd (false≢true e')
        go false b p q e' = absurd (false≢true e')

    reach-into : (n m : ℕ) → m < length defs → Reaches defs n m → reach n m ≡ true
    unfolding Table entry reach
    reach-into n m l r = go (nat_lt n (length defs)) (nat_lt m (length defs)) refl refl
      where
        go : (a b : Bool) (p : nat_lt n (length defs) ≡ a) (q : nat_lt m (length defs) ≡ b) → entry n m a b p q ≡ true
        go true true p q = (table n (ltb-true n _ p) m (ltb-true m _ q)).1.1 r
        go true false p q = let g : length defs ≤ m = ltb-false m _ q in absurd (omega arith)
        go false b p q = let g : length defs ≤ n = ltb-false n _ p in let l' : n < length defs = reaches-from n m r in absurd (omega arith)

    reach-inside : (n m : ℕ) → reach n m ≡ true → m < length defs
    unfolding entry reach
    reach-inside n m e = go (nat_lt n (length defs)) (nat_lt m (length defs)) refl refl e
      where
        go : (a b : Bool) (p : nat_lt n (length defs) ≡ a) (q : nat_lt m (length defs) ≡ b) → entry n m a b p q ≡ true → m < length defs
        go true true p q e' = ltb-true m _ q
        go true false p q e' = absurd (false≢true e')
        go false b p q e' = absurd (false≢true e')

    not-itself : (n : ℕ) → reach n n ≡ false
    not-itself n = go (reach n n) refl
      where
        go : (b : Bool) → reach n n ≡ b → b ≡ false
        go true e = absurd (right.contractive n (reach-out n n e))
        go false e = refl

    rank : ℕ → ℕ
    rank n = count (reach n) (length defs)

    rank-less : (n m : ℕ) (def : Def) (args : List Term) → slice_get defs n ≡ Some def → IsBarePart defs (Name m args) def.body → rank m < rank n
    unfolding rank
    rank-less n m def args e b =
        let named : (d : Def) × (slice_get defs m ≡ Some d) × (d.params ≡ length args) = right.names_defined def (contains-at defs n def e) m args (bare-part defs (Name m args) def.body b) in
        let inside : m < length defs = get-below defs m named.0 named.1 in
        let r : Reaches defs n m = directly n m def args e b in
        count-strictly-more (reach m) (reach n) (λ x q. reach-into n x (reach-inside m x q) (by_way_of n m x r (reach-out m x q))) m (not-itself m) (reach-into n m inside r) (length defs) inside

    rank-falls : (n m : ℕ) → Reaches defs n m → m < length defs → rank m < rank n
    unfolding rank
    rank-falls n m r inside = count-strictly-more (reach m) (reach n) (λ x q. reach-into n x (reach-inside m x q) (by_way_of n m x r (reach-out m x q))) m (not-itself m) (reach-into n m inside r) (length defs) inside

    chain-short : (n : ℕ) (ms : List ℕ) → IsChainAfter defs n ms → length ms ≤ rank n
    chain-short n [] c = omega arith
    chain-short n (m ∷ ms) c =
        let fall : rank m < rank n = rank-falls n m c.0 c.1 in
        let rest : length ms ≤ rank m = chain-short m ms c.2 in
        omega arith

    rank-bounded : 0 < length defs → (n : ℕ) → rank n < length defs
    unfolding rank
    rank-bounded some n = go (nat_lt n (length defs)) refl
      where
        go : (b : Bool) → nat_lt n (length defs) ≡ b → count (reach n) (length defs) < length defs
        go true e = count-bound (reach n) n (not-itself n) (length defs) (ltb-true n _ e)
        go false e =
            let g : length defs ≤ n = ltb-false n _ e in
            let none : (x : ℕ) → reach n x ≡ false = λ x. no x (reach n x) refl g in
            rw (count-none (reach n) none (length defs)) some
          where
            no : (x : ℕ) (c : Bool) → reach n x ≡ c → length defs ≤ n → c ≡ false
            no x true q g = let l : n < length defs = reaches-from n x (reach-out n x q) in absurd (omega arith)
            no x false q g = refl

    ranked : 0 < length defs → Ranked defs rank (IsOpenIn defs)
    ranked some = record {
      bodies = λ n def e. bare-into defs (λ m. rank m < rank n) (IsOpenIn defs n) def.body (λ m args b. rank-less n m def args e b) (λ i b. open_in n i def e b);
      bounded = rank-bounded some;
    }

  -- a chain is at most as long as the list
  pub chain-ends : (ns : List ℕ) → IsChain defs ns → length ns ≤ length defs
  chain-ends [] c = omega arith
  chain-ends (n ∷ ns) c = go (nat_lt (length ns) (length defs)) refl
    where
      go : (b : Bool) → nat_lt (length ns) (length defs) ≡ b → length (n ∷ ns) ≤ length defs
      go true e = let l : length ns < length defs = ltb-true (length ns) (length defs) e in omega arith
      go false e =
          let g : length defs ≤ length ns = ltb-false (length ns) (length defs) e in
          let inside : n < length defs = c.0 in
          absurd (no-missing-table (λ table. let short : length ns ≤ rank table n = chain-short table n ns c.1 in let bound : rank table n < length defs = rank-bounded table (omega arith) n in omega arith))

  -- it is not refuted that the definitions have ranks
  pub have-ranks : 0 < length defs → ((rank' : ℕ → ℕ) → Ranked defs rank' (IsOpenIn defs) → ⊥) → ⊥
  have-ranks some k = no-missing-table (λ table. k (rank table) (ranked table some))

-- what follows from ranks and isn't refuted without being so follows for definitions at all
pub by-ranks : {A : Type 0} (defs : List Def) → AreDefinitions defs → (n : ℕ) (def : Def) → slice_get defs n ≡ Some def → Stable A → ((rank' : ℕ → ℕ) → Ranked defs rank' (IsOpenIn defs) → A) → A
by-ranks defs right n def e stable h =
    let l : n < length defs = get-below defs n def e in
    stable (λ k. have-ranks defs right (omega arith) (λ rank' ranked'. k (h rank' ranked')))
