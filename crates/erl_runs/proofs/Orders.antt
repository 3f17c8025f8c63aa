-- Orders of two things: keys, and what is made of several comparisons.
use Rattle.std.proofs.Common.{◌≡◌, refl, ap, sym, ◌∙◌, subst, ℕ, zero, suc, ℤ, pos, negsuc, [], Bool, true, false, arith}
use Rattle.std.proofs.lemmas.Bool.{true≢false}
use Rattle.std.proofs.Math.Nat.{suc_inj}
use Rattle.type_terms.specs.declared.term.Key.{Key}
use Rattle.type_terms.specs.declared.term.Key.TheVariants.{Int as IntKey, Atom as AtomKey}
use Rattle.type_terms.specs.Keys.{Name, Bound, key_lt}
use Rattle.type_terms.proofs.KeyLaws.{key-irr, key-same, key-trans, key-asym}
use Rattle.erl_runs.specs.Value.{Row, no_entries, entry_and}
use Rattle.erl_runs.specs.Order.{Order, less, equal, greater, by_first, by_tests, compare_numbers, compare_keys, size, compare_row_keys, compare_shapes, is_equal, turned}

-- ---- orders

pub not-equal : (o : Order) → is_equal o ≡ false → o ≡ equal → ⊥
not-equal o h e = true≢false (sym (ap is_equal e) ∙ h)

pub both-equal : (a b : Order) → a ≡ equal → b ≡ equal → by_first a b ≡ equal
both-equal a b p q = λ j. by_first (p j) (q j)

pub first-equal : (a b : Order) → by_first a b ≡ equal → a ≡ equal
first-equal less b e = absurd (not-equal less refl e)
first-equal equal b e = refl
first-equal greater b e = absurd (not-equal greater refl e)

pub second-equal : (a b : Order) → by_first a b ≡ equal → b ≡ equal
second-equal less b e = absurd (not-equal less refl e)
second-equal equal b e = e
second-equal greater b e = absurd (not-equal greater refl e)

pub turn-first : (a b c d : Order) → c ≡ turned a → d ≡ turned b → by_first c d ≡ turned (by_first a b)
turn-first less b c d p q = λ j. by_first (p j) d
turn-first equal b c d p q = λ j. by_first (p j) (q j)
turn-first greater b c d p q = λ j. by_first (p j) d

-- how a third thing compares, from how the first compares with the second and the second with it
abbrev pub Chain : Order → Order → Order → Type 0
Chain less less o = o ≡ less
Chain less equal o = o ≡ less
Chain less greater o = Unit {0}
Chain equal less o = o ≡ less
Chain equal equal o = o ≡ equal
Chain equal greater o = Unit {0}
Chain greater _ o = Unit {0}

pub chain-less : (a b c : Order) → Chain a b c → a ≡ less → b ≡ less → c ≡ less
chain-less a b c h p q = subst (λ y. Chain less y c) q (subst (λ x. Chain x b c) p h)

pub chain-first : (a b c d e f : Order) → Chain a b c → (a ≡ equal → b ≡ equal → Chain d e f) → Chain (by_first a d) (by_first b e) (by_first c f)
chain-first less less c d e f h k = λ j. by_first (h j) f
chain-first less equal c d less f h k = λ j. by_first (h j) f
chain-first less equal c d equal f h k = λ j. by_first (h j) f
chain-first less equal c d greater f h k = tt
chain-first less greater c d e f h k = tt
chain-first equal less c less e f h k = λ j. by_first (h j) f
chain-first equal less c equal e f h k = λ j. by_first (h j) f
chain-first equal less c greater e f h k = tt
chain-first equal equal c d e f h k = subst (λ o. Chain d e (by_first o f)) (sym h) (k refl refl)
chain-first equal greater c less e f h k = tt
chain-first equal greater c equal e f h k = tt
chain-first equal greater c greater e f h k = tt
chain-first greater b c d e f h k = tt

-- ---- keys, and numbers, integers and names as keys

pub keys-refl : (k : Key) → compare_keys k k ≡ equal
keys-refl k = λ j. by_tests (key-irr k j) (key-irr k j)

pub keys-equal : (j k : Key) → compare_keys j k ≡ equal → j ≡ k
keys-equal j k = go (key_lt j k) (key_lt k j) refl refl
  where
    go : (a b : Bool) → key_lt j k ≡ a → key_lt k j ≡ b → by_tests a b ≡ equal → j ≡ k
    go true b p q e = absurd (not-equal (by_tests true b) refl e)
    go false true p q e = absurd (not-equal greater refl e)
    go false false p q e = key-same j k p q

pub keys-less : (j k : Key) → compare_keys j k ≡ less → key_lt j k ≡ true
keys-less j k = go (key_lt j k) (key_lt k j)
  where
    go : (a b : Bool) → by_tests a b ≡ less → a ≡ true
    go true b e = refl
    go false true e = absurd (cc)
    go false false e = absurd (cc)

pub keys-turn : (j k : Key) → compare_keys k j ≡ turned (compare_keys j k)
keys-turn j k = go (key_lt j k) (key_lt k j) refl refl
  where
    go : (a b : Bool) → key_lt j k ≡ a → key_lt k j ≡ b → by_tests b a ≡ turned (by_tests a b)
    go true true p q = absurd (true≢false (sym q ∙ key-asym j k p))
    go true false p q = refl
    go false true p q = refl
    go false false p q = refl

pub keys-chain : (i j k : Key) → Chain (compare_keys i j) (compare_keys j k) (compare_keys i k)
keys-chain i j k = go (compare_keys i j) (compare_keys j k) refl refl
  where
    go : (a b : Order) → compare_keys i j ≡ a → compare_keys j k ≡ b → Chain a b (compare_keys i k)
    go less less p q = ap (λ b. by_tests b (key_lt k i)) (key-trans i j k (keys-less i j p) (keys-less j k q))
    go less equal p q = subst (λ z. compare_keys i z ≡ less) (keys-equal j k q) p
    go less greater p q = tt
    go equal less p q = subst (λ z. compare_keys z k ≡ less) (sym (keys-equal i j p)) q
    go equal equal p q = subst (λ z. compare_keys z k ≡ equal) (sym (keys-equal i j p)) q
    go equal greater p q = tt
    go greater b p q = tt

abbrev pub number_key : ℕ → Key
number_key n = IntKey (pos n)

pub integer_of : Key → ℤ
integer_of (IntKey n) = n
integer_of (AtomKey a) = pos 0

pub number_of : Key → ℕ
number_of (IntKey (pos n)) = n
number_of (IntKey (negsuc n)) = 0
number_of (AtomKey a) = 0

pub name_of : Key → Name
name_of (AtomKey a) = a
name_of (IntKey n) = []

pub numbers-equal : (m n : ℕ) → compare_numbers m n ≡ equal → m ≡ n
unfolding number_of
numbers-equal m n e = ap number_of (keys-equal (number_key m) (number_key n) e)

pub integers-equal : (m n : ℤ) → compare_keys (IntKey m) (IntKey n) ≡ equal → m ≡ n
unfolding integer_of
integers-equal m n e = ap integer_of (keys-equal (IntKey m) (IntKey n) e)

pub names-equal : (a b : Name) → compare_keys (AtomKey a) (AtomKey b) ≡ equal → a ≡ b
unfolding name_of
names-equal a b e = ap name_of (keys-equal (AtomKey a) (AtomKey b) e)

-- ---- the keys of maps

pub row_keys-same : {b : Bound} (d : Row b) → compare_row_keys d d ≡ equal
row_keys-same no_entries = refl
row_keys-same (entry_and k p v es) = both-equal _ _ (keys-refl k) (row_keys-same es)

pub row_keys-turn : {b c : Bound} (d : Row b) (e : Row c) → compare_row_keys e d ≡ turned (compare_row_keys d e)
row_keys-turn (entry_and j p v es) (entry_and k q w fs) = turn-first (compare_keys j k) (compare_row_keys es fs) _ _ (keys-turn j k) (row_keys-turn es fs)
row_keys-turn no_entries no_entries = refl
row_keys-turn no_entries (entry_and k q w fs) = refl
row_keys-turn (entry_and j p v es) no_entries = refl

pub no-size : {n : ℕ} → suc n ≡ zero → ⊥
no-size e = absurd (omega arith)

pub row_keys-chain : {a b c : Bound} (d : Row a) (e : Row b) (f : Row c) → size d ≡ size e → size e ≡ size f → Chain (compare_row_keys d e) (compare_row_keys e f) (compare_row_keys d f)
row_keys-chain no_entries no_entries no_entries p q = refl
row_keys-chain no_entries no_entries (entry_and k t w fs) p q = absurd (no-size (sym q))
row_keys-chain no_entries (entry_and k t w fs) f p q = absurd (no-size (sym p))
row_keys-chain (entry_and i r u ds) no_entries f p q = absurd (no-size p)
row_keys-chain (entry_and i r u ds) (entry_and j s v es) no_entries p q = absurd (no-size q)
row_keys-chain (entry_and i r u ds) (entry_and j s v es) (entry_and k t w fs) p q =
    chain-first (compare_keys i j) (compare_keys j k) (compare_keys i k) _ _ _ (keys-chain i j k) (λ x y. row_keys-chain ds es fs (suc_inj p) (suc_inj q))

pub shapes-same : {b : Bound} (d : Row b) → compare_shapes d d ≡ equal
shapes-same d = both-equal _ _ (keys-refl (number_key (size d))) (row_keys-same d)

pub shapes-turn : {b c : Bound} (d : Row b) (e : Row c) → compare_shapes e d ≡ turned (compare_shapes d e)
shapes-turn d e = turn-first (compare_numbers (size d) (size e)) (compare_row_keys d e) _ _ (keys-turn (number_key (size d)) (number_key (size e))) (row_keys-turn d e)

pub shapes-size : {b c : Bound} (d : Row b) (e : Row c) → compare_shapes d e ≡ equal → size d ≡ size e
shapes-size d e h = numbers-equal (size d) (size e) (first-equal _ _ h)

pub shapes-chain : {a b c : Bound} (d : Row a) (e : Row b) (f : Row c) → Chain (compare_shapes d e) (compare_shapes e f) (compare_shapes d f)
shapes-chain d e f =
    chain-first (compare_numbers (size d) (size e)) (compare_numbers (size e) (size f)) (compare_numbers (size d) (size f)) _ _ _ (keys-chain (number_key (size d)) (number_key (size e)) (number_key (size f)))
    (λ p q. row_keys-chain d e f (numbers-equal (size d) (size e) p) (numbers-equal (size e) (size f) q))
